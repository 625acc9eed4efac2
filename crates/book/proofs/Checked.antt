-- The check of schedule and book is 1 to 7, 37 and 38 of the schedule, then 8 or good by the book's room: so a book that it takes has room for every
-- cell of a good schedule.
use Prim.Native.Nat.{ℕ, ◌≤◌}
use mathlib.Core.Bool.{Bool, true, false, cond}
use mathlib.Core.List.{List}
use mathlib.Core.Path.{◌≡◌, refl, sym, ◌∙◌}
use lib.Dec.{ltb}
use borrow.Author.Tests.{ltb-false, le-ltb}
use Rattle.refusals.specs.Outcome.{Outcome, refused, good}
use Rattle.schedule.specs.Check.{check_of}
use Rattle.lookup.specs.declared.Layout.{Layout}
use Rattle.refusals.proofs.Outcomes.{refused-good, good_is}
use Rattle.book.specs.Book.{size, check_book}

-- a book that is not refused by 1 to 8, 37, 38: the schedule is good, and the book has the numbers that it asks for
pub record Sized (S : List ℕ) (numbers : ℕ) (l : Layout) : Type 0 where
  pub schedule : check_of S ≡ good l
  pub room : size l ≤ numbers

module _ (S : List ℕ) (numbers : ℕ) {l : Layout} where
  -- where the schedule is good, the check of the book is refusal 8 or good, by its room
  pub by_room : check_of S ≡ good l → (P : Outcome Layout → Type 0) → P (refused 8 0) → (size l ≤ numbers → P (good l)) → P (check_book S numbers)
  unfolding check_book
  by_room e P small enough = rw e (go (ltb numbers (size l)) refl)
    where
      go : (b : Bool) → ltb numbers (size l) ≡ b → P (cond b (refused 8 0) (good l))
      go true t = small
      go false t = enough (ltb-false _ _ t)

  pub book-good : check_of S ≡ good l → size l ≤ numbers → check_book S numbers ≡ good l
  unfolding check_book
  book-good e h = rw (e, le-ltb numbers (size l) h)

-- a refusal of the schedule stands
book-refused : (S : List ℕ) (numbers : ℕ) {n o : ℕ} → check_of S ≡ refused n o → check_book S numbers ≡ refused n o
unfolding check_book
book-refused S numbers e = rw e

pub sized : (S : List ℕ) (numbers : ℕ) {l : Layout} → check_book S numbers ≡ good l → Sized S numbers l
sized S numbers {l} e = by (check_of S) refl
  where
    by : (r : Outcome Layout) → check_of S ≡ r → Sized S numbers l
    by (refused n o) q = absurd (refused-good (sym (book-refused S numbers q) ∙ e))
    by (good m) q =
        by_room S numbers q (λ r. r ≡ good l → Sized S numbers l)
        (λ w. absurd (refused-good w))
        (λ h w. rw (← good_is w) (record { schedule = q; room = h }))
        e
