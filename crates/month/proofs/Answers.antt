-- What a month's call comes to: the first of 1 to 8, 37, 38, 21 and 22, or what the schedule holds.
use Prim.Native.Nat.{ℕ}
use mathlib.Core.Bool.{true, false, not}
use mathlib.Core.List.{List}
use mathlib.Core.Path.{◌≡◌, refl, sym, ap, subst, ◌∙◌}
use lib.ListN.{length}
use Rattle.std.specs.Prelude.{Ok}
use Rattle.std.proofs.lemmas.Result.{err_from_is_err_and}
use Rattle.wire.specs.Choose.{choose}
use Rattle.wire.proofs.Choose.{here, next, done, chosen, passed}
use Rattle.rules.specs.Marks.{no_grants}
use Rattle.refusals.specs.Outcome.{refused, good}
use Rattle.lookup.specs.Lookup.{firm_listed, firm_place}
use Rattle.lookup.specs.declared.Layout.{Layout}
use Rattle.schedule.proofs.Good.{asked-good, asked-passed}
use Rattle.book.specs.Book.{cells, check_book}
use Rattle.book.proofs.Checked.{sized}
use Rattle.month.specs.Month.{any_excess, firm_cells, month_causes, month_answer, HeldMonth, MonthIs}
use Rattle.month.specs.declared.Month.{Month}
use Rattle.month.specs.Parts.{ListedAt, Sound}

module _ (S B C : List ℕ) where
  -- 1 to 8, 37, 38
  pub is-refused : {n o : ℕ} → check_book S (length B) ≡ refused n o → month_answer S B C ≡ refused n o
  unfolding month_answer
  is-refused e = rw e

  module _ {l : Layout} (e : check_book S (length B) ≡ good l) where
    -- an unlisted firm
    pub is_21 : firm_listed S l C ≡ false → month_answer S B C ≡ refused 21 0
    unfolding month_answer
    is_21 h =
        let n : choose (month_causes S B C l) 0 ≡ 21 = chosen (here (ap not h)) in
        rw (e, n)

  module _ (l : Layout) (f : ℕ) (at : ListedAt S l B C f) where
    pub is_22 : any_excess l (cells l.groups B f) ≡ true → month_answer S B C ≡ refused 22 0
    unfolding month_answer
    is_22 h =
        let n : choose (month_causes S B C l) 0 ≡ 22 = chosen (next (ap not at.listed) (here (rw at.place at h))) in
        rw (at.checked, n)

    pub is_judged : any_excess l (cells l.groups B f) ≡ false → month_answer S B C ≡ good l
    unfolding month_answer
    is_judged h =
        let n : choose (month_causes S B C l) 0 ≡ 0 = chosen (next (ap not at.listed) (next (rw at.place at h) done)) in
        rw (at.checked, n)

-- the month of a listed firm that 22 does not refuse is what the call promises
pub held-month : {S B C : List ℕ} {l : Layout} {f : ℕ} {m : Month} → ListedAt S l B C f → any_excess l (cells l.groups B f) ≡ false
    → HeldMonth S l B f no_grants m → MonthIs S B C (Ok m)
held-month {S} {B} {C} {l} {f} {m} at within h =
    let here : HeldMonth S l B (firm_place S l C) no_grants m = subst (λ (g : ℕ). HeldMonth S l B g no_grants m) at.place h in
    record {
      answer = ap good h.layout ∙ sym (is_judged S B C l f at within);
      held = subst (λ (k : Layout). HeldMonth S k B (firm_place S k C) no_grants m) (sym h.layout) here;
    }

-- a month that is not refused is that of a schedule and a book that were checked
pub judged-book : (S B C : List ℕ) {l : Layout} → month_answer S B C ≡ good l → check_book S (length B) ≡ good l
unfolding month_answer
judged-book S B C = asked-good (month_causes S B C) (check_book S (length B))

-- and of a firm whose numbers are within the limit
pub judged-sound : (S B C : List ℕ) {l : Layout} → month_answer S B C ≡ good l → Sound S l (firm_cells S B C l)
unfolding month_answer
judged-sound S B C {l} e =
    let p = passed (month_causes S B C l) refl (asked-passed (month_causes S B C) (check_book S (length B)) e) in
    record { checked = (sized S (length B) (judged-book S B C e)).schedule; within = p.1.0 }

-- a call that 1 to 8, 37, 38 refuse
pub ruleset refusing = (err_from_is_err_and, is-refused)
