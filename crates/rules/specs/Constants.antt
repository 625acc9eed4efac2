-- Sets of the Program's constants (document 02, 2.9): which are lawful, and by what any set judges.
-- Assumes nothing.
use Rattle.std.specs.Prelude.{◌≤◌, Bool, ◌&&◌, [], ◌∷◌, leb, ltb, min}
use Rattle.wire.specs.Choose.{all, within}
use Rattle.rules.specs.declared.Rules.{Rules}

-- 2.9, 37: no edge is above 1,000,000; the factors are 1 to 10, the severe multiple 1 to 20, automatic waivers 0 to 99 and dollars 1 to 10,000
unfoldable pub in_range : Rules → Bool
in_range P =
    all
    (leb P.edge1 1000000
    ∷ leb P.edge2 1000000
    ∷ leb P.edge3 1000000
    ∷ within 1 10 P.factor1
    ∷ within 1 10 P.factor2
    ∷ within 1 10 P.factor3
    ∷ within 1 20 P.severe
    ∷ within 0 99 P.waivers
    ∷ within 1 10000 P.dollars
    ∷ [])

-- 2.9, 38: the edges are strictly rising, and no factor is above the one before it
unfoldable pub in_order : Rules → Bool
in_order P = all (ltb P.edge1 P.edge2 ∷ ltb P.edge2 P.edge3 ∷ leb P.factor2 P.factor1 ∷ leb P.factor3 P.factor2 ∷ [])

-- 2.9: a lawful set
abbrev pub is_lawful : Rules → Bool
is_lawful P = in_range P && in_order P

-- factors do not grow with the tier: all that the laws ask of a set of constants
pub record Falling (P : Rules) : Type 0 where
  pub second : P.factor2 ≤ P.factor1
  pub third : P.factor3 ≤ P.factor2

-- a function that takes a set takes any numbers in it, a factor above 10 as 10 and a severe multiple above 20 as 20
abbrev pub clamped : Rules → Rules
clamped P =
    record P {
      factor1 = min P.factor1 10;
      factor2 = min P.factor2 10;
      factor3 = min P.factor3 10;
      severe = min P.severe 20;
    }
