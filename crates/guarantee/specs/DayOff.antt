-- A team takes a day off (document 02, 2.10), which demand 3's premise leaves out: a group sends no messages on a day. The amount is no higher then either, where
-- after the first list the firm had no lots in that cell, and a raw count of at least the group's monthly average.
-- Proved in proofs/Demand3.antt (`days_off`, `one_day`): over the same runs as demand 3, of every schedule, so under every lawful set of constants, and of every
-- firm that it lists.
-- Assumes nothing.
use Rattle.std.specs.Prelude.{ℕ, ◌≤◌, Bool, List}
use Rattle.rules.specs.Lighter.{LighterWithDaysOff, one_day_off}
use Rattle.month.specs.Month.{terms}
use Rattle.guarantee.specs.Demand3.{layout, totals_after, Run, amount_of, SameGrants, DollarsFall}

-- of each group the days that `off` names
module _ (S C : List ℕ) (off : (g day : ℕ) → Bool) where
  -- where such a day is in effect, the firm's accepted raw count is above 0 after the first list, with no accepted lots and raw × d ≥ R, R / d being the
  -- group's monthly average after it, and is 0 after the second; every other cell of a day in effect falls as in demand 3
  abbrev pub FallsWithDaysOff : (first second : List (List ℕ)) → Type 0
  FallsWithDaysOff first second = LighterWithDaysOff (terms S (layout S)) off (totals_after S C second) (totals_after S C first)

  -- then the firm's amount is no higher in either exchange grouping, nor are the dollars in its statement; grants keep their premise
  pub record DaysOff : Type 0 where
    pub falls : (p q : Run S C) → FallsWithDaysOff p.posts q.posts → SameGrants S C p q → (e : ℕ) → amount_of S C q e ≤ amount_of S C p e
    pub dollars_fall : (p q : Run S C) → FallsWithDaysOff p.posts q.posts → SameGrants S C p q → DollarsFall S C p q

-- 2.10, the request's case: so it is where in each group one counted day falls to no messages, which may be another day in each, or none (0)
abbrev pub OneDayOff : (S C : List ℕ) → Type 0
OneDayOff S C = (day_of : (g : ℕ) → ℕ) → DaysOff S C (one_day_off day_of)
