-- The eleven marked days and the month (document 01, "Eleven marked days, a month and one whole run"), each against B = 1,000; with each day's factor
-- and the panel's number (document 02, 2.1); and months with and without the days that a team takes off (2.10).
-- Assumes nothing.
use Rattle.std.specs.Prelude.{ℕ, ◌+◌, ◌*◌, ◌-◌, Bool, true, List, [], ◌∷◌, ◌++◌, map, ◌≡◌, refl, eqb, get_or}
use Rattle.wire.specs.Choose.{choose, all, within}
use Rattle.wire.specs.Lists.{joined, table}
use Rattle.wire.specs.Sums.{sum}
use Rattle.rules.specs.Verdict.{version96, verdict, panel_number}
use Rattle.rules.specs.Month.{Terms, is_exempt}
use Rattle.rules.specs.Marks.{Judged, no_grants, judged, marked, billed, amount}
use Rattle.rules.specs.declared.Totals.{Totals}

-- a day and the code and factor that are right for it; an exempt month, d, R, S and V; or the days of a month, how many are monthly, automatic and billed, and
-- the dollars
pub data Case : Type 0 where
  day : (raw score lots code m : ℕ) → Case
  month : (d raw score lots : ℕ) → Case
  bill : (days : List Totals) → (monthly automatic billed dollars : ℕ) → Case

-- a month of one group of the first exchange grouping, every day in effect, from its days' totals
abbrev terms : Terms
terms = record { groups = 1; in_effect = within 1 31; benchmark = λ g. 1000; grouping = λ g. 1 }

abbrev month_of : List Totals → Judged
month_of ts = judged version96 terms (λ g day. get_or ts (day - 1) (record { raw = 0; score = 0; lots = 0 })) no_grants

-- so many days that are alike
abbrev alike : (n raw score lots : ℕ) → List Totals
alike n raw score lots = table n (λ i. record { raw = raw; score = score; lots = lots })

abbrev pub right : Case → Bool
right (day raw score lots n m) =
    let t : Totals = record { raw = raw; score = score; lots = lots } in
    let v = verdict version96 1000 1 t in
    all (eqb v.code n ∷ eqb v.factor m ∷ eqb (panel_number t 1000) (10 * n + m) ∷ [])
right (month d raw score lots) = is_exempt version96 1000 d (record { raw = raw; score = score; lots = lots })
right (bill ts monthly automatic charged dollars) =
    let P = version96 in
    let j = month_of ts in
    all (eqb (marked P j 1 3) monthly ∷ eqb (marked P j 1 4) automatic ∷ eqb (billed P j 1) charged ∷ eqb (amount P j 1) dollars ∷ [])

abbrev pub cases : List Case
cases =
    day 100000 92000 20000 1 1
    ∷ day 45000 50000 5000 2 2
    ∷ day 21000 21000 2000 3 3
    ∷ day 10000 2800 100 0 0
    ∷ day 122000 143000 10000 4 1
    ∷ day 20000 60000 0 0 0
    ∷ day 20001 3 0 5 3
    ∷ day 60001 60000 1000 4 1
    ∷ day 60001 60001 1000 5 1
    ∷ day 40000 30000 1000 3 3
    ∷ day 40001 30000 1000 4 2
    ∷ month 20 1570000 1210000 405000
    -- 2.10: a day below the average: without day 5 the average is above the third edge
    ∷ bill (alike 4 60001 20000 1000 ++ alike 1 1 0 0) 4 0 0 0
    ∷ bill (alike 4 60001 20000 1000) 0 2 2 2000
    -- a day at the average, with lots, which leave the month's sum
    ∷ bill (alike 3 60001 20000 1000 ++ alike 1 60001 0 1000000) 3 0 0 0
    ∷ bill (alike 3 60001 20000 1000) 0 2 1 1000
    -- two days at the average rounded down (39,999 of 39,999.875): without them it is above the second edge
    ∷ bill (alike 3 40000 40000 1000 ++ alike 2 40000 20000 1000 ++ alike 1 40001 20000 1000 ++ alike 2 39999 0 0) 3 0 0 0
    ∷ bill (alike 3 40000 40000 1000 ++ alike 2 40000 20000 1000 ++ alike 1 40001 20000 1000) 0 2 1 1000
    -- a day at the average, without lots, may be taken off: without it 2,000 dollars, as above
    ∷ bill (alike 4 60001 20000 1000 ++ alike 1 60001 20000 0) 0 2 3 3000
    ∷ []

pub all_right : all (map right cases) ≡ true
unfolding all choose joined sum verdict panel_number
all_right = refl
