-- Computed examples of statements under sets of constants (document 02, 2.9): version 9.6 written out, a set without waivers, one with an edge of 0, one with
-- equal factors, and two with waivers and dollars of their own, one of them with its own edges and factors too; and a month in which traffic falls under a set.
-- Assumes nothing.
use Rattle.std.specs.Prelude.{ℕ, List, [], ◌∷◌, ◌++◌, ◌≡◌, refl}
use Rattle.wire.specs.Bytes.{u16_at, u32_at}
use Rattle.wire.specs.Choose.{choose, all, seek_in}
use Rattle.wire.specs.Lists.{joined, table}
use Rattle.wire.specs.Sums.{sum}
use Rattle.calendar.specs.Calendar.{days_in}
use Rattle.rules.specs.Verdict.{version96, verdict}
use Rattle.rules.specs.Constants.{in_range, in_order}
use Rattle.rules.specs.Sets.{own}
use Rattle.rules.specs.declared.Rules.{Rules}
use Rattle.records.specs.Fields.{head_fields, head_ok, constants_fields, group_fields, group_in_range, is_letter, firm_fields, firm_ok, has_code}
use Rattle.contracts.specs.Listing.{contracts_ok, contract_bad, before, contract, listed}
use Rattle.contracts.specs.Counted.{contract_listed, contract_counted, in_front, is_after, is_counted, contract_is}
use Rattle.refusals.specs.Outcome.{good}
use Rattle.lookup.specs.Lookup.{group_start, group_is, firm_is, group_listed, firm_listed}
use Rattle.lookup.specs.InForce.{rules_of}
use Rattle.schedule.specs.Samples.{head, constants, group, ABC, firm}
use Rattle.schedule.specs.Check.{check_of, scan, ending, with_record, cause, is_repeated, fields_ok, constants_in_order, constants_in_range, is_full, length_ok, is_due, kind_of}
use Rattle.activity.specs.Activity.{totals_of}
use Rattle.activity.specs.Correction.{correction_fields}
use Rattle.book.specs.Book.{check_book}
use Rattle.book.specs.Post.{taking}
use Rattle.accepted.specs.Accepted.{accepted_cells, posted}
use Rattle.accepted.specs.Samples.{groups_under, activity, orders, fifth, eleventh, three_groups, many_marks}
use Rattle.month.specs.Month.{any_excess, month_answer}
use Rattle.grants.specs.Month as months
use Rattle.statement.specs.Lines.{line_at, tally, shown}
use Rattle.guarantee.specs.Demand3.{amount_after}
use Rattle.guarantee.specs.Example.{schedule, no_violations, run, answers, leaves, is_lighter, is_kept, days_where, eased}

-- document 01's schedule with a set
abbrev schedule_under : Rules → List ℕ
schedule_under P = head 0 ++ constants P ++ group 69 83 1 ++ firm

-- no automatic waivers
abbrev unwaived : Rules
unwaived = record version96 { waivers = 0 }

-- the run under it, whose first two days are billed: grouping 1: 4 0 0 0 4 4000
abbrev unwaived_bytes : List ℕ
unwaived_bytes =
    (13 ∷ 0 ∷ 18 ∷ 0 ∷ 1 ∷ 69 ∷ 83 ∷ 2 ∷ 232 ∷ 3 ∷ 0 ∷ 0 ∷ 1 ∷ [])
    ++ (13 ∷ 0 ∷ 18 ∷ 0 ∷ 2 ∷ 69 ∷ 83 ∷ 2 ∷ 232 ∷ 3 ∷ 0 ∷ 0 ∷ 1 ∷ [])
    ++ (13 ∷ 0 ∷ 18 ∷ 0 ∷ 3 ∷ 69 ∷ 83 ∷ 2 ∷ 232 ∷ 3 ∷ 0 ∷ 0 ∷ 1 ∷ [])
    ++ (13 ∷ 0 ∷ 18 ∷ 0 ∷ 4 ∷ 69 ∷ 83 ∷ 1 ∷ 232 ∷ 3 ∷ 0 ∷ 0 ∷ 1 ∷ [])
    ++ (20 ∷ 0 ∷ 19 ∷ 0 ∷ 1 ∷ 0 ∷ 4 ∷ 0 ∷ 0 ∷ 0 ∷ 0 ∷ 0 ∷ 0 ∷ 0 ∷ 4 ∷ 0 ∷ 160 ∷ 15 ∷ 0 ∷ 0 ∷ [])
    ++ no_violations

-- a first edge of 0: a day of one cancellation and no lots is severe; a day without messages is not judged, though it has a mass action request and so a
-- score
abbrev from_0 : Rules
from_0 = record version96 { edge1 = 0 }

abbrev one_message : List (List ℕ)
one_message = orders 69 83 1 0 0 1 0 ∷ activity 69 83 2 24239 0 0 0 0 1 0 0 0 ∷ []

abbrev one_message_bytes : List ℕ
one_message_bytes =
    (13 ∷ 0 ∷ 18 ∷ 0 ∷ 1 ∷ 69 ∷ 83 ∷ 1 ∷ 232 ∷ 3 ∷ 0 ∷ 0 ∷ 3 ∷ [])
    ++ (20 ∷ 0 ∷ 19 ∷ 0 ∷ 1 ∷ 0 ∷ 1 ∷ 0 ∷ 0 ∷ 0 ∷ 0 ∷ 0 ∷ 0 ∷ 0 ∷ 1 ∷ 0 ∷ 232 ∷ 3 ∷ 0 ∷ 0 ∷ [])
    ++ no_violations

-- equal factors, a severe multiple of 1 and 500 dollars: in the highest tier the fifth marked day passes, which fails with the factor 1; the eleventh, in the
-- middle one, is above its bound and so severe
abbrev equal : Rules
equal = record version96 { factor1 = 2; factor3 = 2; severe = 1; dollars = 500 }

abbrev equal_run : List (List ℕ)
equal_run = fifth 69 83 1 10000 ∷ eleventh 69 83 2 ∷ []

abbrev equal_bytes : List ℕ
equal_bytes =
    (13 ∷ 0 ∷ 18 ∷ 0 ∷ 2 ∷ 69 ∷ 83 ∷ 1 ∷ 244 ∷ 1 ∷ 0 ∷ 0 ∷ 2 ∷ [])
    ++ (20 ∷ 0 ∷ 19 ∷ 0 ∷ 1 ∷ 0 ∷ 1 ∷ 0 ∷ 0 ∷ 0 ∷ 0 ∷ 0 ∷ 0 ∷ 0 ∷ 1 ∷ 0 ∷ 244 ∷ 1 ∷ 0 ∷ 0 ∷ [])
    ++ no_violations

-- edges 100, 200 and 300, factors 10, 7 and 7, severe multiple 2, one waiver, 500 dollars
abbrev one_waiver : Rules
one_waiver = record own { waivers = 1 }

-- two days of 301 messages, which are ordinary violations of the highest tier: 80,100 against 70,000
abbrev two_days : List (List ℕ)
two_days = orders 69 83 1 0 51 250 10 ∷ orders 69 83 2 0 51 250 10 ∷ []

-- a line's last byte is the set's factor; grouping 1: 2 0 1 0 1 500
abbrev two_days_bytes : List ℕ
two_days_bytes =
    (13 ∷ 0 ∷ 18 ∷ 0 ∷ 1 ∷ 69 ∷ 83 ∷ 4 ∷ 0 ∷ 0 ∷ 0 ∷ 0 ∷ 7 ∷ [])
    ++ (13 ∷ 0 ∷ 18 ∷ 0 ∷ 2 ∷ 69 ∷ 83 ∷ 2 ∷ 244 ∷ 1 ∷ 0 ∷ 0 ∷ 7 ∷ [])
    ++ (20 ∷ 0 ∷ 19 ∷ 0 ∷ 1 ∷ 0 ∷ 2 ∷ 0 ∷ 0 ∷ 0 ∷ 1 ∷ 0 ∷ 0 ∷ 0 ∷ 1 ∷ 0 ∷ 244 ∷ 1 ∷ 0 ∷ 0 ∷ [])
    ++ no_violations

-- with a third day of 298 messages, a score of 1 and 10 lots the month has 900 messages, three times the third edge, so it is in the middle tier; its score is
-- 1,603 in 30 lots, 160,300 against 210,000: it is exempt, and both violations are monthly
abbrev exempt_days : List (List ℕ)
exempt_days = orders 69 83 3 297 1 0 10 ∷ two_days

abbrev exempt_bytes : List ℕ
exempt_bytes =
    (13 ∷ 0 ∷ 18 ∷ 0 ∷ 1 ∷ 69 ∷ 83 ∷ 3 ∷ 0 ∷ 0 ∷ 0 ∷ 0 ∷ 7 ∷ [])
    ++ (13 ∷ 0 ∷ 18 ∷ 0 ∷ 2 ∷ 69 ∷ 83 ∷ 3 ∷ 0 ∷ 0 ∷ 0 ∷ 0 ∷ 7 ∷ [])
    ++ (20 ∷ 0 ∷ 19 ∷ 0 ∷ 1 ∷ 0 ∷ 2 ∷ 0 ∷ 2 ∷ 0 ∷ 0 ∷ 0 ∷ 0 ∷ 0 ∷ 0 ∷ 0 ∷ 0 ∷ 0 ∷ 0 ∷ 0 ∷ [])
    ++ no_violations

-- three waivers and 10,000 dollars
abbrev dear : Rules
dear = record version96 { waivers = 3; dollars = 10000 }

-- the run under it: only the severe day costs; grouping 1: 4 0 3 0 1 10000
abbrev dear_bytes : List ℕ
dear_bytes =
    (13 ∷ 0 ∷ 18 ∷ 0 ∷ 1 ∷ 69 ∷ 83 ∷ 4 ∷ 0 ∷ 0 ∷ 0 ∷ 0 ∷ 1 ∷ [])
    ++ (13 ∷ 0 ∷ 18 ∷ 0 ∷ 2 ∷ 69 ∷ 83 ∷ 4 ∷ 0 ∷ 0 ∷ 0 ∷ 0 ∷ 1 ∷ [])
    ++ (13 ∷ 0 ∷ 18 ∷ 0 ∷ 3 ∷ 69 ∷ 83 ∷ 4 ∷ 0 ∷ 0 ∷ 0 ∷ 0 ∷ 1 ∷ [])
    ++ (13 ∷ 0 ∷ 18 ∷ 0 ∷ 4 ∷ 69 ∷ 83 ∷ 1 ∷ 16 ∷ 39 ∷ 0 ∷ 0 ∷ 1 ∷ [])
    ++ (20 ∷ 0 ∷ 19 ∷ 0 ∷ 1 ∷ 0 ∷ 4 ∷ 0 ∷ 0 ∷ 0 ∷ 3 ∷ 0 ∷ 0 ∷ 0 ∷ 1 ∷ 0 ∷ 16 ∷ 39 ∷ 0 ∷ 0 ∷ [])
    ++ no_violations

pub record Sets : Type 0 where
  -- version 9.6 written out gives the same statement as leaving it out
  pub same_answer : answers (schedule_under version96) 1 run [] ≡ answers schedule 1 run []
  pub same_bytes : leaves (schedule_under version96) 1 run [] ≡ leaves schedule 1 run []
  pub same_many_answer : answers (groups_under 2 (constants version96)) 3 many_marks [] ≡ answers three_groups 3 many_marks []
  pub same_many_bytes : leaves (groups_under 2 (constants version96)) 3 many_marks [] ≡ leaves three_groups 3 many_marks []
  pub unwaived_answer : answers (schedule_under unwaived) 1 run [] ≡ good 92
  pub unwaived_output : leaves (schedule_under unwaived) 1 run [] ≡ unwaived_bytes ++ table 28 (λ i. 7)
  pub from_0_answer : answers (schedule_under from_0) 1 one_message [] ≡ good 53
  pub from_0_output : leaves (schedule_under from_0) 1 one_message [] ≡ one_message_bytes ++ table 67 (λ i. 7)
  pub under_96_answer : answers schedule 1 one_message [] ≡ good 40
  pub equal_answer : answers (schedule_under equal) 1 equal_run [] ≡ good 53
  pub equal_output : leaves (schedule_under equal) 1 equal_run [] ≡ equal_bytes ++ table 67 (λ i. 7)
  pub two_days_answer : answers (schedule_under one_waiver) 1 two_days [] ≡ good 66
  pub two_days_output : leaves (schedule_under one_waiver) 1 two_days [] ≡ two_days_bytes ++ table 54 (λ i. 7)
  pub exempt_answer : answers (schedule_under one_waiver) 1 exempt_days [] ≡ good 66
  pub exempt_output : leaves (schedule_under one_waiver) 1 exempt_days [] ≡ exempt_bytes ++ table 54 (λ i. 7)
  pub dear_answer : answers (schedule_under dear) 1 run [] ≡ good 92
  pub dear_output : leaves (schedule_under dear) 1 run [] ≡ dear_bytes ++ table 28 (λ i. 7)
  -- traffic falls under a set without waivers: with more lots on day 3 it passes, and is billed no longer
  pub eased_lighter : days_where is_lighter (schedule_under unwaived) ABC run eased ≡ 31
  pub eased_kept : days_where is_kept (schedule_under unwaived) ABC run eased ≡ 31
  pub run_amount : amount_after (schedule_under unwaived) ABC run [] 1 ≡ 4000
  pub eased_amount : amount_after (schedule_under unwaived) ABC eased [] 1 ≡ 3000

pub sets : Sets
unfolding accepted_cells posted taking totals_of correction_fields check_book check_of scan ending with_record cause is_repeated fields_ok
    constants_in_order constants_in_range is_full length_ok is_due kind_of firm_listed group_listed firm_is group_is group_start firm_ok firm_fields
    has_code group_in_range group_fields contracts_ok contract_bad before contract listed head_ok head_fields rules_of constants_fields in_range
    in_order is_letter contract_is is_counted is_after in_front contract_counted contract_listed days_in sum joined seek_in all choose u32_at u16_at
    verdict any_excess month_answer months.granted_answer line_at tally shown
sets =
    record {
      same_answer = refl;
      same_bytes = refl;
      same_many_answer = refl;
      same_many_bytes = refl;
      unwaived_answer = refl;
      unwaived_output = refl;
      from_0_answer = refl;
      from_0_output = refl;
      under_96_answer = refl;
      equal_answer = refl;
      equal_output = refl;
      two_days_answer = refl;
      two_days_output = refl;
      exempt_answer = refl;
      exempt_output = refl;
      dear_answer = refl;
      dear_output = refl;
      eased_lighter = refl;
      eased_kept = refl;
      run_amount = refl;
      eased_amount = refl;
    }
