-- What a record has passed that no cause refuses: each row of the table that did not refuse it is a fact, so its firm and its group are
-- listed and its day is one of the month, and its cell stands inside the book.
use Prim.Native.Nat.{ℕ, ◌+◌, ◌≤◌, ◌<◌}
use mathlib.Core.Bool.{Bool, true, false, cond, not, false≢true}
use mathlib.Core.List.{List, ◌++◌}
use mathlib.Core.Path.{◌≡◌, refl}
use native.Mathlib.Omega.{arith}
use lib.Dec.{eqb}
use borrow.Author.Tests.{eqb-true, ltb-true, not-false}
use Rattle.wire.specs.Choose.{choose}
use Rattle.wire.proofs.Bools.{range}
use Rattle.wire.proofs.Choose.{next, done, chosen, Passed, passed, passed_first, passed_second, sought}
use Rattle.calendar.specs.Calendar.{days_in}
use Rattle.refusals.specs.Outcome.{refused, good}
use Rattle.lookup.specs.Lookup.{group_listed, firm_is, firm_listed}
use Rattle.lookup.specs.declared.Layout.{Layout}
use Rattle.calendar.proofs.Laws.{days_most}
use Rattle.activity.specs.Activity.{firm_code, day}
use Rattle.filing.specs.Causes.{form_causes, field_causes, list_causes, firm_place_of, group_place_of, record_causes, is_counted_record}
use Rattle.book.specs.Book.{width, size}
use Rattle.cell.specs.Entry.{cell_causes}
use Rattle.book.specs.Post.{index_of, is_taken, taking}
use Rattle.book.specs.declared.posting.Effect.TheVariants as effect
use Rattle.cell.specs.declared.Cell.{Cell}
use Rattle.book.proofs.Places.{Placed, inside}

module _ (S : List ℕ) (l : Layout) (R : List ℕ) where
  -- none of the record's causes refuses it
  pub record Admitted : Type 0 where
    pub form : choose (form_causes R) 0 ≡ 0
    pub firm : firm_place_of S l R < l.firms
    pub code : firm_is S l.start (firm_code R) (firm_place_of S l R) ≡ true
    pub placed : Placed l.groups (group_place_of S l R) (day R)

  pub admitted : Passed (record_causes S l R) → Admitted
  unfolding firm_listed group_listed
  admitted p =
      let f = passed_first (form_causes R) (field_causes R ++ list_causes S l R) p in
      let q = passed_second (field_causes R) (list_causes S l R) (passed_second (form_causes R) (field_causes R ++ list_causes S l R) p) in
      let firm = ltb-true _ _ (not-false _ q.0) in
      let days = range 1 (days_in l.month) (day R) (not-false _ q.1.1.0) in
      record {
        form = chosen (next f.0 (next f.1.0 (next f.1.1.0 done)));
        firm = firm;
        code = (sought l.firms (firm_is S l.start (firm_code R))).found (omega arith);
        placed =
            record {
              group = ltb-true _ _ (not-false _ q.1.0);
              first = days.least;
              last = omega (arith, days, days_most l.month);
            };
      }

  pub admitted_inside : Admitted → index_of S l R + width ≤ size l
  admitted_inside a = inside l (firm_place_of S l R) (group_place_of S l R) (day R) a.firm a.placed

  -- nor does one of its cell c, and the record is taken into it
  pub record Taken (c : Cell) : Type 0 where
    pub passes : Admitted
    pub cell : Passed (cell_causes c R)

  pub taken : (c : Cell) → is_taken (taking S l c R) ≡ true → Taken c
  unfolding taking
  taken c = go (eqb first 0) (is_counted_record S l R) (eqb second 0) refl refl
    where
      first : ℕ
      first = choose (record_causes S l R) 0

      second : ℕ
      second = choose (cell_causes c R) 0

      go : (x k y : Bool) → eqb first 0 ≡ x → eqb second 0 ≡ y
          → is_taken (cond x (cond (not k) (good effect.Outside) (cond y (good effect.Counted) (refused second 0))) (refused first 0)) ≡ true → Taken c
      go true true true e f t = record { passes = admitted (passed _ refl (eqb-true _ _ e)); cell = passed _ refl (eqb-true _ _ f) }
      go true true false e f t = absurd (false≢true t)
      go true false y e f t = absurd (false≢true t)
      go false k y e f t = absurd (false≢true t)
