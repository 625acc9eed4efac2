-- Lighter traffic: fewer messages, more lots; days off; and grants that name no severe place: premises of demand 3, and of document 02, 2.10.
-- Assumes nothing.
use Rattle.std.specs.Prelude.{ℕ, ◌≤◌, ◌<◌, Bool, true, false, ◌≡◌, eqb}
use Rattle.rules.specs.Verdict.{is_severe}
use Rattle.rules.specs.Month.{Terms, DailyTotals, counted, days, sums, at_least_average}
use Rattle.rules.specs.Marks.{places, Judged}
use Rattle.rules.specs.declared.Totals.{Totals}

-- raw count and score are no larger and lots no smaller in t' than in t
pub record Lighter (t' t : Totals) : Type 0 where
  pub raw : t'.raw ≤ t.raw
  pub score : t'.score ≤ t.score
  pub lots : t.lots ≤ t'.lots

-- a cell falls from t to t': it is lighter, and its raw count, if above zero, does not become zero
pub record CellFalls (t' t : Totals) : Type 0 where
  pub lighter : Lighter t' t
  pub kept : 0 < t.raw → 0 < t'.raw

-- so on each day in effect and in each group
abbrev pub LighterMonth : (s : Terms) → (c' c : DailyTotals) → Type 0
LighterMonth s c' c = (g day : ℕ) → g < s.groups → s.in_effect day ≡ true → CellFalls (c' g day) (c g day)

-- 2.10: a counted day of a group in the first month, c, falls to raw 0 in the second, c' (its score and lots there count nowhere); in the first it has no
-- lots, and its raw count is at least the group's monthly average R / d
pub record DayOff (s : Terms) (c' c : DailyTotals) (g day : ℕ) : Type 0 where
  pub counts : counted s c g day ≡ true
  pub silent : (c' g day).raw ≡ 0
  pub no_lots : (c g day).lots ≡ 0
  pub average : at_least_average (c g day).raw (days s c g) (sums s c g).raw ≡ true

-- 2.10: in each group days are taken off, any number of them: on each day in effect that `off` names; every other cell of a day in effect falls
pub record LighterWithDaysOff (s : Terms) (off : (g day : ℕ) → Bool) (c' c : DailyTotals) : Type 0 where
  pub days_off : (g day : ℕ) → g < s.groups → s.in_effect day ≡ true → off g day ≡ true → DayOff s c' c g day
  pub others : (g day : ℕ) → g < s.groups → s.in_effect day ≡ true → off g day ≡ false → CellFalls (c' g day) (c g day)

-- 2.10: in each group one day, its own; 0, which is no day, where it takes none off
abbrev pub one_day_off : (day_of : (g : ℕ) → ℕ) → (g day : ℕ) → Bool
one_day_off day_of g day = eqb (day_of g) day

-- 2.6: no grant names one of the firm's days that is severe
abbrev pub NoSevereNamed : Judged → Type 0
NoSevereNamed j = (i : ℕ) → i < places → j.named i ≡ true → is_severe (j.verdict i).code ≡ false
