-- After any list of posts the book holds the cells that the list makes, and keeps its length and what lies past its cells: a post changes
-- its own cell as `accept` does, and no other. With the laws of accepted totals this is specs/Laws.antt.
use Prim.Native.Nat.{ℕ, ◌+◌, ◌-◌, ◌*◌, ◌≤◌, ◌<◌}
use mathlib.Core.Bool.{Bool, true, false, cond, ◌&&◌, false≢true}
use mathlib.Core.List.{List}
use mathlib.Core.Path.{◌≡◌, refl, sym, ◌∙◌, ap, fun_ext}
use native.Mathlib.Omega.{arith}
use lib.Dec.{ltb}
use lib.ListN.{length, get_or, drop}
use borrow.Author.Tests.{ltb-true, lt-ltb}
use Rattle.wire.specs.Choose.{within}
use Rattle.wire.specs.Lists.{table, over}
use Rattle.std.specs.Cmp.{first_so, second_so}
use Rattle.wire.proofs.Bools.{range, in_range}
use Rattle.wire.proofs.Folds.{fold_keeps, fold_kept}
use Rattle.wire.proofs.Lists.{length_over, length-put, drop-put, length-table, table_over, table_behind}
use Rattle.refusals.specs.Outcome.{Outcome, refused, good, follow, given}
use Rattle.schedule.specs.Check.{check_of}
use Rattle.lookup.specs.declared.Layout.{Layout}
use Rattle.refusals.proofs.Outcomes.{refused-good}
use Rattle.activity.specs.Activity.{day}
use Rattle.cell.specs.Cell.{empty, cell_totals}
use Rattle.book.specs.Book.{width, size, index, cell_at, numbers_of, with_cell, cells, check_book, open_answer, open_book}
use Rattle.filing.specs.Causes.{firm_place_of, group_place_of}
use Rattle.cell.specs.Entry.{entered}
use Rattle.book.specs.Post.{is_taken, index_of, taking, answer_under, book_under, post_answer, post_book}
use Rattle.book.specs.declared.posting.Effect.{Effect}
use Rattle.book.specs.declared.posting.Effect.TheVariants as effect
use Rattle.accepted.specs.Accepted.{is_at, accept, accepted_cells, posted}
use Rattle.cell.specs.declared.Cell.{Cell}
use Rattle.accepted.specs.Laws.{Laws}
use Rattle.book.proofs.Checked.{by_room, book-good}
use Rattle.book.proofs.Places.{Placed, inside}
use Rattle.accepted.proofs.Cells.{cell_eq, cell_same, cell_other, same_cell}
use Rattle.book.proofs.Taken.{admitted_inside, taken}
use Rattle.accepted.proofs.Accepted.{at_same, same_at, accepted_fold, accepted-own, accepted-none, accepted-within}

-- a book that is as long as it was, and the same from n on
record Kept (n : ℕ) (B B' : List ℕ) : Type 0 where
  long : length B' ≡ length B
  rest : drop n B' ≡ drop n B

-- a book that did not change is kept, and so is one that was kept twice
kept_same : {n : ℕ} {B : List ℕ} → Kept n B B
kept_same = record { long = refl; rest = refl }

kept_on : {n : ℕ} {B B' B'' : List ℕ} → Kept n B B' → Kept n B' B'' → Kept n B B''
kept_on h k = record { long = k.long ∙ h.long; rest = k.rest ∙ h.rest }

-- writing a cell before n keeps the book
kept_cell : (n : ℕ) (B : List ℕ) (i : ℕ) (c : Cell) → i + width ≤ n → n ≤ length B → Kept n B (with_cell B i c)
kept_cell n B i c h k = record { long = length-put i (numbers_of c) B (omega arith); rest = drop-put i (numbers_of c) B (omega arith) n h }

-- so does clearing the first n numbers
kept_clear : (n : ℕ) (B : List ℕ) → n ≤ length B → Kept n B (over (table n (λ i. 0)) B)
kept_clear n B h =
    record {
      long = length_over (table n (λ i. 0)) B (rw length-table h);
      rest = table_behind (λ i. 0) n B;
    }

module _ (S : List ℕ) {l : Layout} (e : check_of S ≡ good l) where
  -- a book that open takes has room
  room : (B : List ℕ) → open_answer S B ≡ good tt → size l ≤ length B
  room B o = by_room S (length B) e (λ c. follow c (λ l. good tt) ≡ good tt → size l ≤ length B) (λ q. absurd (refused-good q)) (λ h q. h) o

  -- a record that is taken has its cell inside the book
  taken_inside : (c : Cell) (R : List ℕ) → is_taken (taking S l c R) ≡ true → index_of S l R + width ≤ size l
  taken_inside c R h = admitted_inside S l R (taken S l R c h).passes

  -- open keeps the book past its cells
  kept_open : (B : List ℕ) → Kept (size l) B (open_book S B)
  kept_open B = by_room S (length B) e (λ c. Kept (size l) B (given c B (λ l. over (table (size l) (λ i. 0)) B))) kept_same (kept_clear (size l) B)

  -- so does a post to a book with room
  kept_in : (B R : List ℕ) → size l ≤ length B → Kept (size l) B (book_under S B R l)
  kept_in B R h = go (is_taken (taking S l c R)) refl
    where
      c : Cell
      c = cell_at B (index_of S l R)

      go : (b : Bool) → is_taken (taking S l c R) ≡ b → Kept (size l) B (cond b (with_cell B (index_of S l R) (entered c R)) B)
      go true a = kept_cell (size l) B (index_of S l R) (entered c R) (taken_inside c R a) h
      go false a = kept_same

  -- a post to any book
  kept_post : (B R : List ℕ) → Kept (size l) B (post_book S B R)
  kept_post B R = by_room S (length B) e (λ c. Kept (size l) B (given c B (book_under S B R))) kept_same (kept_in B R)

  -- and a list of posts after open
  kept-posted : (B : List ℕ) (rs : List (List ℕ)) → Kept (size l) B (posted S (open_book S B) rs)
  unfolding posted
  kept-posted B rs = fold_kept (Kept (size l) B) (post_book S) (λ B' R k. kept_on k (kept_post B' R)) (open_book S B) rs (kept_open B)

  -- the cell of firm f, group g and day d, and where it stands
  module _ (f g d : ℕ) (listed : f < l.firms) (placed : Placed l.groups g d) where
    abbrev place : ℕ
    place = index l.groups f g d

    -- after a post of a record whose cell it is, it is what the record makes of it
    post_here : (B R : List ℕ) → size l ≤ length B → is_at S l f g d R ≡ true
        → cell_at (book_under S B R l) place ≡ accept S l f g d (cell_at B place) R
    post_here B R h at =
        let s = at_same S l f g d R at in
        let there : index_of S l R ≡ place = rw (s.firm, s.group, s.day) in
        rw (there, at) (go (is_taken (taking S l (cell_at B place) R)))
      where
        more : Cell
        more = entered (cell_at B place) R

        go : (b : Bool) → cell_at (cond b (with_cell B place more) B) place ≡ cond b more (cell_at B place)
        go true = cell_same B place more (omega (arith, inside l f g d listed placed))
        go false = refl

    -- after a post of any other, what it was
    post_other : (B R : List ℕ) → size l ≤ length B → is_at S l f g d R ≡ false → cell_at (book_under S B R l) place ≡ cell_at B place
    post_other B R h at = go (is_taken (taking S l c R)) refl
      where
        c : Cell
        c = cell_at B (index_of S l R)

        go : (b : Bool) → is_taken (taking S l c R) ≡ b
            → cell_at (cond b (with_cell B (index_of S l R) (entered c R)) B) place ≡ cell_at B place
        go true a =
            let own = (taken S l R c a).passes.placed in
            cell_other B
            ((f * l.groups + g) * 31 + d - 1)
            ((firm_place_of S l R * l.groups + group_place_of S l R) * 31 + day R - 1)
            (entered c R)
            (omega (arith, taken_inside c R a))
            (λ q. let s = same_cell l.groups (firm_place_of S l R) (group_place_of S l R) (day R) f g d own placed (sym q) in
            false≢true (sym at ∙ same_at S l f g d R s))
        go false a = refl

    -- a book with room whose cell is c
    record Holds (B : List ℕ) (c : Cell) : Type 0 where
      long : size l ≤ length B
      cell : cell_at B place ≡ c

    -- after any post
    holds_post : (B : List ℕ) (c : Cell) (R : List ℕ) → Holds B c → Holds (post_book S B R) (accept S l f g d c R)
    holds_post B c R h =
        record {
          long = rw (kept_post B R).long h.long;
          cell = rw (book-good S (length B) e h.long, ← h.cell) (go (is_at S l f g d R) refl);
        }
      where
        go : (b : Bool) → is_at S l f g d R ≡ b → cell_at (book_under S B R l) place ≡ accept S l f g d (cell_at B place) R
        go true at = post_here B R h.long at
        go false at = post_other B R h.long at ∙ rw at

    -- after open it is empty
    holds_open : (B : List ℕ) → size l ≤ length B → Holds (open_book S B) empty
    holds_open B h =
        rw (book-good S (length B) e h)
        (record {
          long = rw (kept_clear (size l) B h).long h;
          cell = cell_eq (zero place (omega arith)) (zero (place + 1) (omega arith)) (zero (place + 2) (omega arith)) (zero (place + 3) (omega arith));
        })
      where
        zero : (i : ℕ) → i < place + width → get_or (over (table (size l) (λ i. 0)) B) i 0 ≡ 0
        zero i k = table_over (λ i. 0) (size l) i B 0 (omega (arith, inside l f g d listed placed))

    -- and after a list what the list makes of it
    held_cell : (B : List ℕ) (rs : List (List ℕ)) → size l ≤ length B
        → cell_at (posted S (open_book S B) rs) place ≡ accepted_cells S rs f g d
    unfolding posted
    held_cell B rs h =
        (fold_keeps Holds (post_book S) (accept S l f g d) holds_post (open_book S B) empty rs (holds_open B h)).cell
        ∙ sym (accepted_fold S e rs f g d)

  -- so it is with all of a firm's cells
  held-cells : (B : List ℕ) (rs : List (List ℕ)) (f : ℕ) → size l ≤ length B → f < l.firms
      → cells l.groups (posted S (open_book S B) rs) f ≡ accepted_cells S rs f
  held-cells B rs f h listed = fun_ext (λ g. fun_ext (λ d. go g d (ltb g l.groups && within 1 31 d) refl))
    where
      go : (g d : ℕ) (b : Bool) → (ltb g l.groups && within 1 31 d) ≡ b
          → cond b (cell_at (posted S (open_book S B) rs) (index l.groups f g d)) empty ≡ accepted_cells S rs f g d
      go g d true t =
          let r = range 1 31 d (second_so (ltb g l.groups) (within 1 31 d) t) in
          let below = ltb-true _ _ (first_so (ltb g l.groups) (within 1 31 d) t) in
          held_cell f g d listed (record { group = below; first = r.least; last = r.most }) B rs h
      go g d false t =
          sym (accepted-none S e rs f g d
          (λ p. false≢true (sym t ∙ rw (lt-ltb _ _ p.group, in_range 1 31 d p.first p.last))))

-- an answer that is not "counted" leaves the book
not_counted : (a : Outcome Effect) (B w : List ℕ) → (a ≡ good effect.Counted → ⊥) → cond (is_taken a) w B ≡ B
not_counted (refused n o) B w h = refl
not_counted (good effect.Outside) B w h = refl
not_counted (good effect.Counted) B w h = absurd (h refl)

unchanged : (S B R : List ℕ) → (post_answer S B R ≡ good effect.Counted → ⊥) → post_book S B R ≡ B
unchanged S B R = by (check_book S (length B))
  where
    by : (c : Outcome Layout) → (follow c (answer_under S B R) ≡ good effect.Counted → ⊥) → given c B (book_under S B R) ≡ B
    by (refused n o) h = refl
    by (good l) h = not_counted (answer_under S B R l) B _ h

-- every law of specs/Laws.antt
pub laws : (S : List ℕ) {l : Layout} → check_of S ≡ good l → Laws S l
laws S {l} e =
    record {
      unchanged = unchanged S;
      held = λ B rs f o listed. held-cells S e B rs f (room S e B o) listed;
      held_totals = λ B rs f o listed. ap cell_totals (held-cells S e B rs f (room S e B o) listed);
      beyond = λ B rs. (kept-posted S e B rs).rest;
      kept = λ B rs. (kept-posted S e B rs).long;
      limited = accepted-within S e;
      own_only = λ C f ps qs c s. sym (accepted-own S e C f ps c) ∙ ap (λ rs. accepted_cells S rs f) s ∙ accepted-own S e C f qs c;
    }
