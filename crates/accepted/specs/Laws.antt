-- What holds after any list of posts (document 01, "The book and its calls", on demand 3, and document 02, 2.3). Proved in proofs/Laws.antt.
-- Assumes nothing.
use Rattle.std.specs.Prelude.{ℕ, ◌<◌, true, List, Some, ◌≡◌, length, drop}
use Rattle.lookup.specs.Lookup.{firm_found}
use Rattle.refusals.specs.Outcome.{good}
use Rattle.lookup.specs.declared.Layout.{Layout}
use Rattle.cell.specs.Cell.{is_within}
use Rattle.book.specs.Book.{size, cells, totals_in, open_answer, open_book}
use Rattle.book.specs.Post.{post_answer, post_book}
use Rattle.book.specs.declared.posting.Effect.TheVariants as effect
use Rattle.accepted.specs.Accepted.{accepted_cells, accepted, own, of_bytes, posted}

-- of a schedule S that the check takes, and that holds l: check_of S ≡ good l
pub record Laws (S : List ℕ) (l : Layout) : Type 0 where
  -- a post whose answer is not "counted" changes nothing
  pub unchanged : (B R : List ℕ) → (post_answer S B R ≡ good effect.Counted → ⊥) → post_book S B R ≡ B
  -- from a book that open has set to zero, after any list, a firm's cells in the book are those that the list makes, editions among them
  pub held : (B : List ℕ) (rs : List (List ℕ)) (f : ℕ) → open_answer S B ≡ good tt → f < l.firms
      → cells l.groups (posted S (open_book S B) rs) f ≡ accepted_cells S rs f
  -- so their totals are its accepted totals, whatever lies past 124 × G × F
  pub held_totals : (B : List ℕ) (rs : List (List ℕ)) (f : ℕ) → open_answer S B ≡ good tt → f < l.firms
      → totals_in l.groups (posted S (open_book S B) rs) f ≡ accepted S rs f
  -- which stays as it was
  pub beyond : (B : List ℕ) (rs : List (List ℕ)) → drop (size l) (posted S (open_book S B) rs) ≡ drop (size l) B
  -- the book keeps its length
  pub kept : (B : List ℕ) (rs : List (List ℕ)) → length (posted S (open_book S B) rs) ≡ length B
  -- no accepted total and no edition is above 10,000,000,000: 18 is asked of what is added, and a correction's numbers have four bytes each
  pub limited : (rs : List (List ℕ)) → of_bytes rs ≡ true → (f g day : ℕ) → is_within (accepted_cells S rs f g day) ≡ true
  -- a firm's accepted totals and editions depend only on its own posts
  pub own_only : (C : List ℕ) (f : ℕ) (ps qs : List (List ℕ)) → firm_found S l C ≡ Some f → own C ps ≡ own C qs
      → accepted_cells S ps f ≡ accepted_cells S qs f
