-- Computed examples of days off (document 02, 2.10): two days that may not be taken off, one below the group's monthly average and one with lots, since
-- without either the month is no longer exempt; and a month that the claim applies to, whose amount falls.
-- Assumes nothing.
use Rattle.std.specs.Prelude.{ℕ, ◌+◌, ◌≤◌, Bool, true, false, ◌&&◌, ◌||◌, List, [], ◌∷◌, ◌++◌, ◌≡◌, refl, eqb}
use Rattle.wire.specs.Bytes.{u16_at, u32_at, u32_bytes}
use Rattle.wire.specs.Choose.{choose, all, seek_in}
use Rattle.wire.specs.Lists.{joined, table}
use Rattle.wire.specs.Sums.{sum, count}
use Rattle.calendar.specs.Calendar.{days_in}
use Rattle.rules.specs.Verdict.{verdict}
use Rattle.rules.specs.Month.{counted, days, sums, at_least_average}
use Rattle.rules.specs.Lighter.{one_day_off}
use Rattle.records.specs.Fields.{head_fields, head_ok, group_fields, group_in_range, is_letter, firm_fields, firm_ok, has_code}
use Rattle.contracts.specs.Listing.{contracts_ok, contract_bad, before, contract, listed}
use Rattle.contracts.specs.Counted.{contract_listed, contract_counted, in_front, is_after, is_counted, contract_is}
use Rattle.refusals.specs.Outcome.{good}
use Rattle.lookup.specs.Lookup.{group_start, group_is, firm_is, group_listed, firm_listed}
use Rattle.lookup.specs.InForce.{rules_of}
use Rattle.schedule.specs.Check.{check_of, scan, ending, with_record, cause, is_repeated, fields_ok, constants_in_order, constants_in_range, is_full, length_ok, is_due, kind_of}
use Rattle.activity.specs.Activity.{totals_of}
use Rattle.activity.specs.Correction.{correction_fields}
use Rattle.book.specs.Book.{check_book}
use Rattle.book.specs.Post.{taking}
use Rattle.accepted.specs.Accepted.{accepted_cells, posted}
use Rattle.schedule.specs.Samples.{ABC}
use Rattle.accepted.specs.Samples.{orders}
use Rattle.month.specs.Month.{any_excess, month_answer, terms}
use Rattle.grants.specs.Month as months
use Rattle.statement.specs.Lines.{line_at, tally, shown}
use Rattle.guarantee.specs.Demand3.{layout, totals_after, amount_after, Run, amount_of}
use Rattle.guarantee.specs.DayOff.{FallsWithDaysOff}
use Rattle.guarantee.specs.Example.{schedule, no_violations, answers, leaves, is_lighter, is_kept}

-- 60,001 messages with a score of 20,000 on a day, and so many lots: with 1,000 an ordinary violation of the highest tier, with none a severe one
abbrev busy : (day lots : ℕ) → List ℕ
busy day lots = orders 69 83 day 40001 20000 0 lots

-- four such days
abbrev pub four : List (List ℕ)
four = busy 1 1000 ∷ busy 2 1000 ∷ busy 3 1000 ∷ busy 4 1000 ∷ []

-- and a fifth with a single message: the month's average is in the middle tier, and it is exempt
abbrev below_average : List (List ℕ)
below_average = four ++ orders 69 83 5 1 0 0 0 ∷ []

-- three such days
abbrev three : List (List ℕ)
three = busy 1 1000 ∷ busy 2 1000 ∷ busy 3 1000 ∷ []

-- and a fourth day, whose raw count is the average, with no score and many lots, which exempt the month
abbrev with_lots : List (List ℕ)
with_lots = three ++ orders 69 83 4 60001 0 0 1000000 ∷ []

-- lines of the first n days with the mark m, in the highest tier
abbrev free_lines : (n m : ℕ) → List ℕ
free_lines n m = joined n (λ i. 13 ∷ 0 ∷ 18 ∷ 0 ∷ (i + 1) ∷ 69 ∷ 83 ∷ m ∷ 0 ∷ 0 ∷ 0 ∷ 0 ∷ 1 ∷ [])

-- and a billed one
abbrev billed_line : (day : ℕ) → List ℕ
billed_line day = 13 ∷ 0 ∷ 18 ∷ 0 ∷ day ∷ 69 ∷ 83 ∷ 2 ∷ 232 ∷ 3 ∷ 0 ∷ 0 ∷ 1 ∷ []

-- totals of grouping 1, of n violations: all are monthly, or two are automatic and so many billed
abbrev all_monthly : (n : ℕ) → List ℕ
all_monthly n = 20 ∷ 0 ∷ 19 ∷ 0 ∷ 1 ∷ 0 ∷ n ∷ 0 ∷ n ∷ 0 ∷ 0 ∷ 0 ∷ 0 ∷ 0 ∷ 0 ∷ 0 ∷ 0 ∷ 0 ∷ 0 ∷ 0 ∷ []

abbrev two_automatic : (n billed dollars : ℕ) → List ℕ
two_automatic n billed dollars = (20 ∷ 0 ∷ 19 ∷ 0 ∷ 1 ∷ 0 ∷ n ∷ 0 ∷ 0 ∷ 0 ∷ 2 ∷ 0 ∷ 0 ∷ 0 ∷ billed ∷ 0 ∷ []) ++ u32_bytes dollars

-- five days of the same raw count, each the average; on the last no lots
abbrev pub before_off : List (List ℕ)
before_off = four ++ busy 5 0 ∷ []

-- the last taken off, and with more lots the first passes
abbrev pub after_off : List (List ℕ)
after_off = busy 1 2000 ∷ busy 2 1000 ∷ busy 3 1000 ∷ busy 4 1000 ∷ []

-- day 5 is taken off
abbrev pub fifth_day : (g : ℕ) → ℕ
fifth_day g = 5

-- the raw count of a day after a list is at least the group's monthly average
abbrev reaches_average : List (List ℕ) → (day : ℕ) → Bool
reaches_average rs day =
    let c = totals_after schedule ABC rs in
    let s = terms schedule (layout schedule) in
    at_least_average (c 0 day).raw (days s c 0) (sums s c 0).raw

-- a day falls as in demand 3, or is the fifth
abbrev pub falls_or_off : (day : ℕ) → Bool
falls_or_off day =
    let t' = totals_after schedule ABC after_off 0 day in
    let t = totals_after schedule ABC before_off 0 day in
    eqb 5 day || (is_lighter t' t && is_kept t' t)

pub record DayOffExample : Type 0 where
  -- a day below the average: the month is exempt with it, and costs 2,000 dollars without
  pub below : reaches_average below_average 5 ≡ false
  pub below_answer : answers schedule 1 below_average [] ≡ good 92
  pub below_output : leaves schedule 1 below_average [] ≡ free_lines 4 3 ++ all_monthly 4 ++ no_violations ++ table 28 (λ i. 7)
  pub without_answer : answers schedule 1 four [] ≡ good 92
  pub without_output : leaves schedule 1 four [] ≡ free_lines 2 4 ++ billed_line 3 ++ billed_line 4 ++ two_automatic 4 2 2000 ++ no_violations ++ table 28 (λ i. 7)
  -- a day at the average, with lots: the month is exempt with it, and costs 1,000 dollars without
  pub average : reaches_average with_lots 4 ≡ true
  pub lots_answer : answers schedule 1 with_lots [] ≡ good 79
  pub lots_output : leaves schedule 1 with_lots [] ≡ free_lines 3 3 ++ all_monthly 3 ++ no_violations ++ table 41 (λ i. 7)
  pub lotless_answer : answers schedule 1 three [] ≡ good 79
  pub lotless_output : leaves schedule 1 three [] ≡ free_lines 2 4 ++ billed_line 3 ++ two_automatic 3 1 1000 ++ no_violations ++ table 41 (λ i. 7)
  -- a day at the average, without lots, may be taken off; other days fall as before, and the amount with them
  pub off_counts : counted (terms schedule (layout schedule)) (totals_after schedule ABC before_off) 0 5 ≡ true
  pub off_raw : (totals_after schedule ABC after_off 0 5).raw ≡ 0
  pub off_lots : (totals_after schedule ABC before_off 0 5).lots ≡ 0
  pub off_average : reaches_average before_off 5 ≡ true
  pub others_fall : count 31 (λ i. falls_or_off (i + 1)) ≡ 31
  pub before_amount : amount_after schedule ABC before_off [] 1 ≡ 3000
  pub after_amount : amount_after schedule ABC after_off [] 1 ≡ 1000

-- so the claim applies to it, without grants: proved in proofs/Applied.antt
pub record OffApplies : Type 0 where
  pub fifth : FallsWithDaysOff schedule ABC (one_day_off fifth_day) before_off after_off
  pub amount : (p q : Run schedule ABC) → p.posts ≡ before_off → q.posts ≡ after_off → p.grants ≡ [] → q.grants ≡ []
      → (e : ℕ) → amount_of schedule ABC q e ≤ amount_of schedule ABC p e

pub day_off : DayOffExample
unfolding accepted_cells posted taking totals_of correction_fields check_book check_of scan ending with_record cause is_repeated fields_ok
    constants_in_order constants_in_range is_full length_ok is_due kind_of firm_listed group_listed firm_is group_is group_start firm_ok firm_fields
    has_code group_in_range group_fields contracts_ok contract_bad before contract listed head_ok head_fields is_letter contract_is is_counted
    is_after in_front contract_counted contract_listed days_in sum joined seek_in all choose u32_at u16_at rules_of verdict any_excess month_answer
    months.granted_answer line_at tally shown
day_off =
    record {
      below = refl;
      below_answer = refl;
      below_output = refl;
      without_answer = refl;
      without_output = refl;
      average = refl;
      lots_answer = refl;
      lots_output = refl;
      lotless_answer = refl;
      lotless_output = refl;
      off_counts = refl;
      off_raw = refl;
      off_lots = refl;
      off_average = refl;
      others_fall = refl;
      before_amount = refl;
      after_amount = refl;
    }
