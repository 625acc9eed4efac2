-- A firm's month: its counted days, their sums, and the monthly exemption (document 01, "The month", and document 02, 2.9 and 2.10; the Program, section 10).
-- Assumes nothing.
use Rattle.std.specs.Prelude.{ℕ, ◌+◌, ◌*◌, Bool, cond, not, ◌&&◌, ◌||◌, leb, ltb}
use Rattle.wire.specs.Sums.{sum}
use Rattle.rules.specs.Verdict.{exceeds}
use Rattle.rules.specs.declared.Rules.{Rules}
use Rattle.rules.specs.declared.Totals.{Totals}

-- what the schedule says of the month: how many groups it lists, which days (from 1) are in effect, and each group's benchmark and exchange
-- grouping, the groups by their place (from 0)
pub record Terms : Type 0 where
  pub groups : ℕ
  pub in_effect : (day : ℕ) → Bool
  pub benchmark : (g : ℕ) → ℕ
  pub grouping : (g : ℕ) → ℕ

-- a firm's totals, by group and day: a cell is one firm, one product group, one day
abbrev pub DailyTotals : Type 0
DailyTotals = (g day : ℕ) → Totals

module _ (s : Terms) (c : DailyTotals) where
  -- The month: counted days are days in effect with raw above zero
  abbrev pub counted : (g day : ℕ) → Bool
  counted g day = s.in_effect day && ltb 0 (c g day).raw

  -- a sum over the counted days of a group, among the first n days
  abbrev pub over_counted : (n g : ℕ) → (Totals → ℕ) → ℕ
  over_counted n g f = sum n (λ i. cond (counted g (i + 1)) (f (c g (i + 1))) 0)

  -- The month: d, how many they are
  abbrev pub days : (g : ℕ) → ℕ
  days g = over_counted 31 g (λ t. 1)

  -- The month: R, S and V are sums of raw, score and lots over the d counted days
  abbrev pub sums : (g : ℕ) → Totals
  sums g =
      record {
        raw = over_counted 31 g (λ t. t.raw);
        score = over_counted 31 g (λ t. t.score);
        lots = over_counted 31 g (λ t. t.lots);
      }

-- 2.10: a raw count is at least the average R / d of d days with R messages together: raw × d ≥ R
abbrev pub at_least_average : (raw d R : ℕ) → Bool
at_least_average raw d R = leb R (raw * d)

-- The month: exempt when R ≤ 20,000 × d (2.9: the first edge × d), or when 100 × S ≤ B × m × V, of d counted days with the sums t
abbrev pub is_exempt : Rules → (B d : ℕ) → Totals → Bool
is_exempt P B d t = leb t.raw (P.edge1 * d) || not (exceeds P B d t)

-- a group is exempt
abbrev pub exempt : Rules → (s : Terms) → DailyTotals → (g : ℕ) → Bool
exempt P s c g = is_exempt P (s.benchmark g) (days s c g) (sums s c g)
