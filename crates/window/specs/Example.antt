-- Computed examples of windows (document 02, 2.8): nineteen, twenty, twenty-one and forty-one days; days without messages and refused ones between; days
-- held on both sides of place 0, with numbers that mean nothing at the other places; what 36 refuses.
-- Assumes nothing.
use Rattle.std.specs.Prelude.{ℕ, ◌+◌, ◌*◌, List, [], ◌∷◌, ◌++◌, ◌≡◌, refl, set, replicate}
use Rattle.wire.specs.Choose.{choose, all}
use Rattle.wire.specs.Lists.{joined, table}
use Rattle.rules.specs.Verdict.{limit}
use Rattle.rules.specs.declared.Totals.{Totals}
use Rattle.refusals.specs.Outcome.{Outcome, refused, good}
use Rattle.window.specs.Window.{empty, held, is_refused, stored, window_after, push_answer}
use Rattle.window.specs.Laws.{pushed}
use Rattle.window.specs.declared.Window.{Window}
use Rattle.window.specs.declared.WindowSums.{WindowSums}

abbrev day : (raw score lots : ℕ) → Totals
day raw score lots = record { raw = raw; score = score; lots = lots }

-- day n has n, 10 × n and 100 × n
abbrev nth : (n : ℕ) → Totals
nth n = day n (10 * n) (100 * n)

-- the first n days
abbrev first : (n : ℕ) → List Totals
first n = table n (λ i. nth (i + 1))

-- what is answered of a day after a list
abbrev answer : List Totals → Totals → Outcome WindowSums
answer days t = push_answer (pushed empty days) t

abbrev sums : (raw score lots days : ℕ) → Outcome WindowSums
sums raw score lots days = good (record { totals = day raw score lots; days = days })

-- one above the limit
abbrev over : ℕ
over = limit + 1

-- days without messages, and days that 36 refuses
abbrev uncounted : List Totals
uncounted = day 0 7 8 ∷ day 0 limit limit ∷ day over 1 1 ∷ day 1 over 1 ∷ day 1 1 over ∷ day 0 0 over ∷ []

-- place p has 1 + p in each list, and places 8 and 9 a number above the limit
abbrev numbers : List ℕ
numbers = 1 ∷ 2 ∷ 3 ∷ 4 ∷ 5 ∷ 6 ∷ 7 ∷ 8 ∷ over ∷ over ∷ 11 ∷ 12 ∷ 13 ∷ 14 ∷ 15 ∷ 16 ∷ 17 ∷ 18 ∷ 19 ∷ 20 ∷ []

abbrev window : (count oldest : ℕ) → Window
window count oldest = record { raw = numbers; score = numbers; lots = numbers; count = count; oldest = oldest }

-- twenty ones in each list; and a full window whose place 4 has a score above the limit
abbrev ones : List ℕ
ones = replicate 20 1

abbrev alike : (count oldest : ℕ) → Window
alike count oldest = record { raw = ones; score = ones; lots = ones; count = count; oldest = oldest }

abbrev full : (oldest : ℕ) → Window
full oldest = record { raw = ones; score = set ones 4 over; lots = ones; count = 20; oldest = oldest }

pub record Example : Type 0 where
  pub nineteen : answer (first 18) (nth 19) ≡ sums 190 1900 19000 19
  pub twenty : answer (first 19) (nth 20) ≡ sums 210 2100 21000 20
  -- day 1 has left
  pub twenty_one : answer (first 20) (nth 21) ≡ sums 230 2300 23000 20
  -- days 1 to 21 have left, and the oldest's place has passed from 19 to 0 once
  pub forty_one : answer (first 40) (nth 41) ≡ sums 630 6300 63000 20
  pub round : window_after (alike 20 19) (nth 5)
      ≡ record { raw = set ones 19 5; score = set ones 19 50; lots = set ones 19 500; count = 20; oldest = 0 }
  -- none of these enters, and none makes a day leave; a day without messages is answered with what is held
  pub between : answer (first 20 ++ uncounted) (nth 21) ≡ sums 230 2300 23000 20
  pub without_messages : answer (first 20) (day 0 7 8) ≡ sums 210 2100 21000 20
  pub first_without : answer [] (day 0 0 0) ≡ sums 0 0 0 0
  -- three days at places 18, 19 and 0, then a fourth at place 1
  pub around : push_answer (window 3 18) (nth 5) ≡ sums (19 + 20 + 1 + 5) (40 + 50) (40 + 500) 4
  pub at_place_1 : window_after (window 3 18) (nth 5)
      ≡ record { raw = set numbers 1 5; score = set numbers 1 50; lots = set numbers 1 500; count = 4; oldest = 18 }
  -- places 8 and 9 hold no day; then place 8 holds one, and 36 is asked of a day without messages too
  pub not_held : push_answer (window 18 10) (day 0 0 0) ≡ sums 191 191 191 18
  pub day_held : push_answer (window 19 10) (day 0 0 0) ≡ refused 36 0
  -- place 4 holds the oldest, which would leave, and then the newest
  pub leaving : push_answer (full 4) (nth 1) ≡ refused 36 0
  pub newest_held : push_answer (full 5) (nth 1) ≡ refused 36 0
  -- a window of more days, and one whose oldest has no place, which stays as it is
  pub too_many : push_answer (alike 21 0) (day 0 0 0) ≡ refused 36 0
  pub no_place : push_answer (alike 0 20) (nth 1) ≡ refused 36 0
  pub stays : window_after (alike 0 20) (nth 1) ≡ alike 0 20
  -- 19 is a place
  pub last_place : push_answer (alike 0 19) (nth 1) ≡ sums 1 10 100 1
  -- the limit itself, twenty times
  pub most : answer (table 25 (λ i. day limit limit limit)) (day limit limit limit) ≡ sums (20 * limit) (20 * limit) (20 * limit) 20
  pub above : answer [] (day 0 0 over) ≡ refused 36 0

pub example : Example
unfolding choose all joined held is_refused stored window_after push_answer
example =
    record {
      nineteen = refl;
      twenty = refl;
      twenty_one = refl;
      forty_one = refl;
      round = refl;
      between = refl;
      without_messages = refl;
      first_without = refl;
      around = refl;
      at_place_1 = refl;
      not_held = refl;
      day_held = refl;
      leaving = refl;
      newest_held = refl;
      too_many = refl;
      no_place = refl;
      stays = refl;
      last_place = refl;
      most = refl;
      above = refl;
    }
