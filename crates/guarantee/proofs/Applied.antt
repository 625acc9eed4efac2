-- Demand 3 applies to two pairs of lists in a schedule of one group, where every one of 31 days is lighter and keeps its messages; and to the first pair
-- with grants of which none is refused and none names a severe place. The claim of days off applies to a third pair, whose fifth day is taken off.
use Prim.Native.Nat.{ℕ, ◌+◌, ◌-◌, ◌<◌}
use mathlib.Core.Bool.{Bool, true, false, not, ◌&&◌, ◌||◌, false≢true}
use mathlib.Core.List.{List}
use mathlib.Core.Path.{◌≡◌, refl, sym, ap, ap₂, subst, subst₂, ◌∙◌}
use native.Mathlib.Omega.{arith}
use lib.Dec.{leb, ltb, eqb}
use borrow.Author.Tests.{leb-true, ltb-true, eqb-true}
use Rattle.wire.specs.Choose.{choose, within}
use Rattle.wire.specs.Sums.{count}
use Rattle.std.specs.Cmp.{first_so, second_so}
use Rattle.wire.proofs.Bools.{range}
use Rattle.wire.proofs.Sums.{count-all}
use Rattle.rules.specs.Verdict.{is_severe}
use Rattle.rules.specs.Marks.{places, Judged}
use Rattle.rules.specs.Lighter.{Lighter, CellFalls, DayOff, one_day_off, NoSevereNamed}
use Rattle.rules.specs.declared.Totals.{Totals}
use Rattle.calendar.specs.Calendar.{days_in, in_effect}
use Rattle.calendar.proofs.Laws.{days_most}
use Rattle.month.specs.Month.{terms}
use Rattle.grants.specs.Grants.{grants_causes}
use Rattle.schedule.specs.Samples.{ABC}
use Rattle.guarantee.specs.Demand3.{layout, totals_after, month_after, Run, Falls, SameGrants}
use Rattle.guarantee.specs.DayOff.{FallsWithDaysOff}
use Rattle.guarantee.specs.Example.{schedule, run, some_days, is_lighter, is_kept, days_where, is_spared, Applies, example}
use Rattle.guarantee.specs.DayOffExample.{before_off, after_off, fifth_day, falls_or_off, OffApplies, day_off}
use Rattle.guarantee.proofs.Demand3.{no_cause_taken, one_day, without_grants}

lighter_by : (t' t : Totals) → is_lighter t' t ≡ true → Lighter t' t
lighter_by t' t e =
    let rest = second_so (leb t'.raw t.raw) _ e in
    record {
      raw = leb-true _ _ (first_so (leb t'.raw t.raw) _ e);
      score = leb-true _ _ (first_so (leb t'.score t.score) _ rest);
      lots = leb-true _ _ (second_so (leb t'.score t.score) _ rest);
    }

kept_by : (t' t : Totals) → is_kept t' t ≡ true → 0 < t.raw → 0 < t'.raw
kept_by t' t e h = go (leb t.raw 0) refl e
  where
    go : (b : Bool) → leb t.raw 0 ≡ b → (b || ltb 0 t'.raw) ≡ true → 0 < t'.raw
    go true q w = absurd (omega (arith, leb-true t.raw 0 q))
    go false q w = ltb-true 0 t'.raw w

cell_by : (t' t : Totals) → is_lighter t' t ≡ true → is_kept t' t ≡ true → CellFalls t' t
cell_by t' t l k = record { lighter = lighter_by t' t l; kept = kept_by t' t k }

-- a test that holds on 31 days holds of every day in effect
on_each : (month closed : ℕ) (is_so : ℕ → Bool) → count 31 (λ i. is_so (i + 1)) ≡ 31 → (day : ℕ) → in_effect month closed day ≡ true → is_so day ≡ true
on_each month closed is_so e day on =
    let r = range 1 (days_in month) day (first_so (within 1 (days_in month) day) _ on) in
    let m = days_most month in
    let d : day - 1 + 1 ≡ day = omega arith in
    rw (← d) (count-all 31 (λ i. is_so (i + 1)) e (day - 1) (omega arith))

module _ (S C : List ℕ) (first second : List (List ℕ)) (one : (layout S).groups ≡ 1) where
  abbrev pair_so : (is_so : (t' t : Totals) → Bool) → (day : ℕ) → Bool
  pair_so is_so day = is_so (totals_after S C second 0 day) (totals_after S C first 0 day)

  pub falls : days_where is_lighter S C first second ≡ 31 → days_where is_kept S C first second ≡ 31 → Falls S C first second
  falls l k g day h on =
      let z : g ≡ 0 = omega arith in
      rw z (cell_by _ _ (on_each _ _ (pair_so is_lighter) l day on) (on_each _ _ (pair_so is_kept) k day on))

-- where every place is spared, no severe one is named
spared_by : (n : Bool) (s : Bool) → not (n && s) ≡ true → n ≡ true → s ≡ false
spared_by true false e q = refl
spared_by true true e q = absurd (false≢true e)
spared_by false s e q = absurd (false≢true q)

spared : (j : Judged) → count places (is_spared j) ≡ places → NoSevereNamed j
spared j e i l q = spared_by (j.named i) (is_severe (j.verdict i).code) (count-all places (is_spared j) e i l) q

with_grants : (p q : Run schedule ABC) → p.posts ≡ run → p.grants ≡ some_days → q.grants ≡ some_days → SameGrants schedule ABC p q
with_grants p q ps pg qg =
    record {
      same = pg ∙ sym qg;
      taken = no_cause_taken schedule ABC example.is_firm p (ap (λ (G : List ℕ). choose (grants_causes schedule (layout schedule) G) 0) pg ∙ example.some_taken);
      none_severe =
          subst NoSevereNamed (sym (ap₂ (month_after schedule ABC) ps pg)) (spared (month_after schedule ABC run some_days) example.some_spared);
    }

pub applies : Applies
applies =
    record {
      grants = with_grants;
      lots = falls _ _ _ _ example.one_group example.eased_lighter example.eased_kept;
      correction = falls _ _ _ _ example.one_group example.amended_lighter example.amended_kept;
    }

-- the fifth day is taken off, and every other one falls
fifth_falls : FallsWithDaysOff schedule ABC (one_day_off fifth_day) before_off after_off
fifth_falls =
    record {
      days_off = λ g day h on q. let z : g ≡ 0 = omega (arith, example.one_group) in rw (z, ← eqb-true 5 day q) fifth;
      others = λ g day h on q.
          let z : g ≡ 0 = omega (arith, example.one_group) in
          rw z (other day q (on_each (layout schedule).month (layout schedule).closed falls_or_off day_off.others_fall day on));
    }
  where
    fifth : DayOff (terms schedule (layout schedule)) (totals_after schedule ABC after_off) (totals_after schedule ABC before_off) 0 5
    fifth = record { counts = day_off.off_counts; silent = day_off.off_raw; no_lots = day_off.off_lots; average = day_off.off_average }

    other : (day : ℕ) → eqb 5 day ≡ false → falls_or_off day ≡ true
        → CellFalls (totals_after schedule ABC after_off 0 day) (totals_after schedule ABC before_off 0 day)
    other day q e =
        let t' = totals_after schedule ABC after_off 0 day in
        let t = totals_after schedule ABC before_off 0 day in
        let both : is_lighter t' t && is_kept t' t ≡ true = sym (ap (λ b. b || (is_lighter t' t && is_kept t' t)) q) ∙ e in
        cell_by t' t (first_so (is_lighter t' t) (is_kept t' t) both) (second_so (is_lighter t' t) (is_kept t' t) both)

pub off_applies : OffApplies
off_applies =
    record {
      fifth = fifth_falls;
      amount = λ p q ps qs pg qg.
          (one_day schedule ABC example.is_firm fifth_day).falls p q
          (subst₂ (FallsWithDaysOff schedule ABC (one_day_off fifth_day)) (sym ps) (sym qs) fifth_falls)
          ((without_grants schedule ABC example.is_firm).same_grants p q pg qg);
    }
