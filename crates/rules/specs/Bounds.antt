-- What the parts of a verdict ask of each other, so that no product leaves 64 bits. The public contracts do not cite these.
-- Assumes nothing.
use Rattle.std.specs.Prelude.{ℕ, ◌*◌, ◌≤◌}
use Rattle.rules.specs.Verdict.{limit}
use Rattle.rules.specs.declared.Rules.{Rules}
use Rattle.rules.specs.declared.Totals.{Totals}

-- a set of constants whose factors and severe multiple are small
pub record SmallFactors (P : Rules) : Type 0 where
  pub factor1 : P.factor1 ≤ 10
  pub factor2 : P.factor2 ≤ 10
  pub factor3 : P.factor3 ≤ 10
  pub severe : P.severe ≤ 20

-- such a set, a benchmark in range, and the totals of at most 31 days, each within its limit
pub record Bounded (P : Rules) (B d : ℕ) (t : Totals) : Type 0 where
  pub small : SmallFactors P
  pub benchmark : B ≤ 100000
  pub days : d ≤ 31
  pub score : t.score ≤ limit * 31
  pub lots : t.lots ≤ limit * 31

-- a benchmark, or its severe multiple, a lawful factor, and such totals
pub record Small (B m : ℕ) (t : Totals) : Type 0 where
  pub benchmark : B ≤ 20 * 100000
  pub factor : m ≤ 10
  pub score : t.score ≤ limit * 31
  pub lots : t.lots ≤ limit * 31
