-- The Program's constants, and the verdict on totals (document 01, "The day's verdict", and document 02, 2.1, 2.7 and 2.9; the Program, sections 2 to 5
-- and 8). `Rules`, `Totals`, `Sides` and `Verdict` are the structs of src/lib.rt. Totals are those of d days: a day's own for d = 1, a month's sums for
-- its d counted days (document 01, "The month"). P are the constants; the numbers in document 01's sentences are version 9.6's, and a schedule may give others
-- (2.9; Constants.antt has which).
-- Assumes nothing.
use Rattle.std.specs.Prelude.{ℕ, ◌+◌, ◌*◌, Bool, cond, not, ◌&&◌, ◌||◌, [], ◌∷◌, Option, Some, None, Result, Ok, Err, leb, ltb, eqb}
use Rattle.wire.specs.Choose.{choose, all, within}
use Rattle.rules.specs.declared.Rules.{Rules}
use Rattle.rules.specs.declared.Totals.{Totals}
use Rattle.rules.specs.declared.Sides.{Sides}
use Rattle.rules.specs.declared.Verdict.{Verdict}
use Rattle.rules.specs.declared.NoVerdict.{NoVerdict}
use Rattle.rules.specs.declared.NoVerdict.TheVariants as none

-- The day's verdict and The month: the numbers of version 9.6
abbrev pub version96 : Rules
version96 =
    record {
      edge1 = 20000;
      edge2 = 40000;
      edge3 = 60000;
      factor1 = 3;
      factor2 = 2;
      factor3 = 1;
      severe = 6;
      waivers = 2;
      dollars = 1000;
    }

-- 2.1: the verdict where nothing is judged, as where raw is 20,000 or fewer: code 0, m 0
abbrev pub not_judged : Verdict
not_judged = record { code = 0; factor = 0 }

module _ (P : Rules) where
  -- The month: a, b or c by a raw count against the second and the third edge of d days ("at or below: 3, 2; else 1")
  abbrev pub by_tier : (d raw a b c : ℕ) → ℕ
  by_tier d raw a b c = choose ((leb raw (P.edge2 * d), a) ∷ (leb raw (P.edge3 * d), b) ∷ []) c

  -- The day's verdict: the tier's factor m is 3 for raw 20,001 to 40,000, 2 for 40,001 to 60,000, 1 above
  abbrev pub tier_factor : (d raw : ℕ) → ℕ
  tier_factor d raw = by_tier d raw P.factor1 P.factor2 P.factor3

  -- The day's verdict: the two sides of a comparison, 100 × score and B × m × lots
  abbrev pub sides : (B d : ℕ) → Totals → Sides
  sides B d t = record { scored = 100 * t.score; allowed = B * tier_factor d t.raw * t.lots }

  -- The day's verdict: 100 × score > B × m × lots
  abbrev pub exceeds : (B d : ℕ) → Totals → Bool
  exceeds B d t = ltb (sides B d t).allowed (sides B d t).scored

  -- 2.7: both sides of the six-times comparison, 100 × score and 6 × B × m × lots; 2.9: the severe multiple in place of 6
  abbrev pub severe_sides : (B d : ℕ) → Totals → Sides
  severe_sides B d t = sides (P.severe * B) d t

  -- The day's verdict: 0 when raw ≤ 20,000; otherwise a fail when 100 × score > B × m × lots, which is 5 (severe) when also
  -- 100 × score > 6 × B × m × lots, else 4 (ordinary); otherwise a pass, 3, 2 or 1 by tier. 2.1: with the code the factor m, 0 where raw is
  -- 20,000 or fewer
  unfoldable pub verdict : (B d : ℕ) → Totals → Verdict
  verdict B d t =
      let m = tier_factor d t.raw in
      choose
      ((leb t.raw (P.edge1 * d), not_judged)
      ∷ (exceeds B d t && exceeds (P.severe * B) d t, record { code = 5; factor = m })
      ∷ (exceeds B d t, record { code = 4; factor = m })
      ∷ [])
      (record { code = by_tier d t.raw 3 2 1; factor = m })

-- The month: a violation has code 4 or 5
abbrev pub is_violation : ℕ → Bool
is_violation code = eqb code 4 || eqb code 5

-- The month: a severe one has code 5
abbrev pub is_severe : ℕ → Bool
is_severe code = eqb code 5

-- Numbers of refusal, 18, 22, 24 and 36: the greatest total of a cell
abbrev pub limit : ℕ
limit = 10000000000

-- no total of d days is above d times the limit
abbrev pub fits : (d : ℕ) → Totals → Bool
fits d t = all (leb t.raw (limit * d) ∷ leb t.score (limit * d) ∷ leb t.lots (limit * d) ∷ [])

-- The day's verdict: B is the group's benchmark in hundredths, 1 to 100,000
abbrev pub is_benchmark : (B : ℕ) → Bool
is_benchmark B = within 1 100000 B

-- Numbers of refusal, 24: totals above the limit, d times over, or B out of range
abbrev pub is_refused : (d : ℕ) → Totals → (B : ℕ) → Bool
is_refused d t B = not (fits d t && is_benchmark B)

-- what the totals of d days come to: a verdict, a refusal's number, or more days than a month has, which no number of the papers is for
pub data Judgement : Type 0 where
  decided : Verdict → Judgement
  refusal : ℕ → Judgement
  too_many_days : Judgement

-- what an answer of days_verdict means
abbrev pub days_meaning : Result Verdict NoVerdict → Judgement
days_meaning (Ok v) = decided v
days_meaning (Err none.Refused) = refusal 24
days_meaning (Err none.TooManyDays) = too_many_days

-- the verdict on the totals of d days, top to bottom
unfoldable pub days_verdict : Rules → (d : ℕ) → Totals → (B : ℕ) → Judgement
days_verdict P d t B = choose ((ltb 31 d, too_many_days) ∷ (is_refused d t B, refusal 24) ∷ []) (decided (verdict P B d t))

-- 2.1: the panel's number of a verdict is 10 × code + m
abbrev pub number_of : Verdict → ℕ
number_of v = 10 * v.code + v.factor

-- The day's verdict, which takes raw, score, lots and B as numbers: the panel's number of a day; 24 still means refused. 2.9: the verdict called alone by
-- the panel keeps version 9.6's
unfoldable pub panel_number : Totals → (B : ℕ) → ℕ
panel_number t B = cond (is_refused 1 t B) 24 (number_of (verdict version96 B 1 t))

-- 2.7: the sides of a day's six-times comparison (2.9: with the severe multiple in force), where 24 does not refuse the day
unfoldable pub day_sides : Rules → Totals → (B : ℕ) → Option Sides
day_sides P t B = cond (is_refused 1 t B) None (Some (severe_sides P B 1 t))
