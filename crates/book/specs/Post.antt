-- A post: the causes that refuse a record, its own and its cell's, its answer, and the book after it (document 01, "The book and its calls" and
-- "Numbers of refusal", and document 02, 2.3 and 2.5).
-- S is the schedule, l what it holds, R the record, B the book.
-- Assumes nothing.
use Rattle.std.specs.Prelude.{ℕ, Bool, true, false, cond, not, List, ◌≡◌, length}
use Rattle.refusals.specs.Outcome.{Outcome, refused, good, follow, given, asked}
use Rattle.lookup.specs.declared.Layout.{Layout}
use Rattle.activity.specs.Activity.{day}
use Rattle.filing.specs.Causes.{firm_place_of, group_place_of, record_causes, is_counted_record}
use Rattle.cell.specs.Entry.{entered, cell_causes}
use Rattle.cell.specs.declared.Cell.{Cell}
use Rattle.book.specs.Book.{index, cell_at, with_cell, check_book}
use Rattle.book.specs.declared.posting.Effect.{Effect}
use Rattle.book.specs.declared.posting.Effect.TheVariants as effect

-- the record is taken into its cell: the answer is "counted"
abbrev pub is_taken : Outcome Effect → Bool
is_taken (refused number offset) = false
is_taken (good effect.Outside) = false
is_taken (good effect.Counted) = true

module _ (S : List ℕ) (l : Layout) where
  -- where the record's cell stands in the book
  abbrev pub index_of : (R : List ℕ) → ℕ
  index_of R = index l.groups (firm_place_of S l R) (group_place_of S l R) (day R)

  -- Numbers of refusal, top to bottom, of a record whose cell is c: 11 to 17 with 31 after 13 and 33 after 17; "outside"; 32 and 18; else "counted"
  unfoldable pub taking : (c : Cell) → (R : List ℕ) → Outcome Effect
  taking c R =
      asked (record_causes S l R) (
      cond (not (is_counted_record S l R)) (good effect.Outside) (
      asked (cell_causes c R) (
      good effect.Counted)))

module _ (S B R : List ℕ) where
  -- Post: all is asked of the cell as it stands in the book
  abbrev pub answer_under : Layout → Outcome Effect
  answer_under l = taking S l (cell_at B (index_of S l R)) R

  -- Post changes the cell where it answers "counted", and else nothing
  abbrev pub book_under : Layout → List ℕ
  book_under l = cond (is_taken (answer_under l)) (with_cell B (index_of S l R) (entered (cell_at B (index_of S l R)) R)) B

  -- Post, after the refusals of schedule and book (1 to 8, 37, 38)
  abbrev pub post_answer : Outcome Effect
  post_answer = follow (check_book S (length B)) answer_under

  -- on a refusal every buffer is unchanged
  abbrev pub post_book : List ℕ
  post_book = given (check_book S (length B)) B book_under

-- what post promises, of what it answers and of the book before and after
pub record PostIs (S B R : List ℕ) (a : Outcome Effect) (B' : List ℕ) : Type 0 where
  pub answer : a ≡ post_answer S B R
  pub book : B' ≡ post_book S B R

-- what entering the counted record R into the cell at i promises
pub record EnterIs (B : List ℕ) (i : ℕ) (R : List ℕ) (a : Outcome Effect) (B' : List ℕ) : Type 0 where
  pub answer : a ≡ asked (cell_causes (cell_at B i) R) (good effect.Counted)
  pub book : B' ≡ cond (is_taken (asked (cell_causes (cell_at B i) R) (good effect.Counted))) (with_cell B i (entered (cell_at B i) R)) B
