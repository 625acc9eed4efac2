-- Month numbers, the days of a month, and the days in effect (document 01, "Records").
-- Assumes nothing.
use Rattle.std.specs.Prelude.{ℕ, ◌-◌, ◌/◌, ◌%◌, ◌^◌, Bool, cond, ◌&&◌, List, [], ◌∷◌, eqb, get_or}
use Rattle.wire.specs.Choose.{within}

-- Records: a month number is year × 12 + month − 1, from 24,000 to 25,199 (2000 to 2099)
abbrev pub is_month : ℕ → Bool
is_month m = within 24000 25199 m

-- the days of January to December in a common year
abbrev pub month_days : List ℕ
month_days = 31 ∷ 28 ∷ 31 ∷ 30 ∷ 31 ∷ 30 ∷ 31 ∷ 31 ∷ 30 ∷ 31 ∷ 30 ∷ 31 ∷ []

-- Records: every fourth year is leap
abbrev pub is_leap_february : ℕ → Bool
is_leap_february m = eqb (m % 12) 1 && eqb (m / 12 % 4) 0

-- the days of a month
unfoldable pub days_in : ℕ → ℕ
days_in m = cond (is_leap_february m) 29 (get_or month_days (m % 12) 0)

-- Numbers of refusal, 16: a day, from 1, that is not past the month
abbrev pub has_day : (month day : ℕ) → Bool
has_day month day = within 1 (days_in month) day

-- bit i of a mask, 0 or 1
abbrev pub bit_at : (mask i : ℕ) → ℕ
bit_at mask i = mask / 2 ^ i % 2

-- Records: bit d − 1 of the head's mask is set where day d is not in effect; a day in effect is one of the month whose bit is not
abbrev pub in_effect : (month closed day : ℕ) → Bool
in_effect month closed day = has_day month day && eqb (bit_at closed (day - 1)) 0
