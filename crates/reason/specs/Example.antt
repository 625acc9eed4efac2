-- Computed examples of reasons (document 02, 2.7 and 2.9): every answer, in a month with both exchange groupings; the sides of severe days; two waivers of one day;
-- reasons under sets of constants; days and groups that the schedule doesn't know, and the order of refusals.
-- Assumes nothing.
use Rattle.std.specs.Prelude.{ℕ, ◌*◌, List, [], ◌∷◌, ◌++◌, ◌≡◌, refl, take}
use Rattle.wire.specs.Bytes.{u16_at, u32_at}
use Rattle.wire.specs.Choose.{choose, all, seek_in, last_below}
use Rattle.wire.specs.Lists.{joined, table}
use Rattle.wire.specs.Sums.{sum}
use Rattle.calendar.specs.Calendar.{days_in}
use Rattle.rules.specs.Verdict.{version96, verdict}
use Rattle.rules.specs.Constants.{in_range, in_order}
use Rattle.rules.specs.declared.Rules.{Rules}
use Rattle.records.specs.Fields.{head_fields, head_ok, constants_fields, group_fields, group_in_range, is_letter, firm_fields, firm_ok, has_code}
use Rattle.contracts.specs.Listing.{contracts_ok, contract_bad, before, contract, listed}
use Rattle.contracts.specs.Counted.{contract_listed, contract_counted, in_front, is_after, is_counted, contract_is}
use Rattle.refusals.specs.Outcome.{Outcome, refused, good}
use Rattle.lookup.specs.Lookup.{group_start, group_is, firm_is, group_listed, firm_listed}
use Rattle.lookup.specs.InForce.{rules_of}
use Rattle.schedule.specs.Check.{check_of, scan, ending, with_record, cause, is_repeated, fields_ok, constants_in_order, constants_in_range, is_full, length_ok, is_due, kind_of}
use Rattle.activity.specs.Activity.{totals_of}
use Rattle.activity.specs.Correction.{correction_fields}
use Rattle.book.specs.Book.{per_firm_group, check_book, open_book}
use Rattle.book.specs.Post.{taking}
use Rattle.accepted.specs.Accepted.{posted}
use Rattle.schedule.specs.Samples.{constants, ABC}
use Rattle.accepted.specs.Samples.{groups_under, orders, fifth, ninth, three_groups, many_marks}
use Rattle.month.specs.Month.{any_excess, month_answer}
use Rattle.grants.specs.Month.{granted_answer}
use Rattle.grants.specs.Example.{grant}
use Rattle.reason.specs.Beside.{Reason, values_at}
use Rattle.reason.specs.Reason.{reason_answer}
use Rattle.reason.specs.Taken.{missing}

-- the groups' codes
abbrev ES : List ℕ
ES = 69 ∷ 83 ∷ []

abbrev CL : List ℕ
CL = 67 ∷ 76 ∷ []

abbrev ZC : List ℕ
ZC = 90 ∷ 67 ∷ []

-- a firm that is unlisted, and a group
abbrev ZZZ : List ℕ
ZZZ = 90 ∷ 90 ∷ 90 ∷ []

abbrev XX : List ℕ
XX = 88 ∷ 88 ∷ []

-- the book of a schedule with three groups after a list of posts
abbrev book : (S : List ℕ) → List (List ℕ) → List ℕ
book S rs = posted S (open_book S (table (per_firm_group * 3) (λ i. 9))) rs

-- the reason for a day and group of ABC after a list, with grants
abbrev told : List (List ℕ) → (day : ℕ) → (code G : List ℕ) → Outcome Reason
told rs day code G = reason_answer three_groups (book three_groups rs) ABC day code G

-- a mark with its values
abbrev marked : (mark : ℕ) → (values : List ℕ) → Outcome Reason
marked mark values = good (record { mark = mark; values = values })

-- a severe day of the lowest tier, 3,000,000 against 6 × 1,000 × 3 × 100, and one of the highest, the ninth marked day
abbrev severe_days : List (List ℕ)
severe_days = orders 69 83 3 0 30000 0 100 ∷ ninth 69 83 4 ∷ []

-- failing days of ZC and ES on day 1, and of ES on day 3
abbrev two_at_once : List (List ℕ)
two_at_once = fifth 90 67 1 10000 ∷ fifth 69 83 1 10000 ∷ fifth 69 83 3 10000 ∷ []

-- the same groups with every day in effect, and the book that such a month fills
abbrev all_days : List ℕ
all_days = groups_under 0 []

abbrev full_book : List ℕ
full_book = book all_days many_marks

-- the reason for a day and group under a set, with every day in effect
abbrev under : Rules → (day : ℕ) → (code : List ℕ) → Outcome Reason
under P day code = let S = groups_under 0 (constants P) in reason_answer S (book S many_marks) ABC day code []

-- the sums of ES with every day in effect
abbrev ES_sums : List ℕ
ES_sums = 508001 ∷ 572003 ∷ 40000 ∷ 5 ∷ []

-- what is answered of a firm, day and group after no posts
abbrev refusing : (C : List ℕ) → (day : ℕ) → (code G : List ℕ) → Outcome Reason
refusing C day code G = reason_answer three_groups (book three_groups []) C day code G

pub record Example : Type 0 where
  pub automatic : told many_marks 1 ES [] ≡ marked 4 (1 ∷ [])
  pub second : told many_marks 3 ES [] ≡ marked 4 (2 ∷ [])
  -- numbers are each grouping's own
  pub other_grouping : told many_marks 1 CL [] ≡ marked 4 (1 ∷ [])
  pub billed : told many_marks 4 ES [] ≡ marked 2 (386001 ∷ 429003 ∷ 30000 ∷ 4 ∷ (1 ∷ ES) ++ (3 ∷ ES))
  pub severe : told many_marks 5 ES [] ≡ marked 1 (300 ∷ 0 ∷ [])
  -- the sums are of ZC's own days
  pub monthly : told many_marks 1 ZC [] ≡ marked 3 (122001 ∷ 143000 ∷ 1010000 ∷ 2 ∷ [])
  -- a day without messages; and a failing cell on a day not in effect, which would be the second automatic line if it were
  pub silent : told many_marks 9 ES [] ≡ marked 0 []
  pub closed : reason_answer three_groups full_book ABC 2 ES [] ≡ marked 0 []
  pub open_day : reason_answer all_days full_book ABC 2 ES [] ≡ marked 4 (2 ∷ [])
  -- a granted severe day answers granted, and so does a billed one; an automatic one stays, and keeps its number
  pub granted_severe : told many_marks 5 ES (grant ABC 5 69 83) ≡ marked 5 []
  pub granted_billed : told many_marks 4 ES (grant ABC 4 69 83) ≡ marked 5 []
  pub granted_automatic : told many_marks 3 ES (grant ABC 3 69 83 ++ grant ABC 4 69 83) ≡ marked 4 (2 ∷ [])
  pub lowest_tier : told severe_days 3 ES [] ≡ marked 1 (3000000 ∷ 1800000 ∷ [])
  pub highest_tier : told severe_days 4 ES [] ≡ marked 1 (6000100 ∷ 6000000 ∷ [])
  -- of one day, the group that stands first in the schedule comes first
  pub same_day : told two_at_once 3 ES [] ≡ marked 2 (244000 ∷ 286000 ∷ 20000 ∷ 2 ∷ (1 ∷ ES) ++ (1 ∷ ZC))
  -- 2.9: of three waivers the last two; zeros after the only one, and for both where there is none
  pub last_two_of_three : under (record version96 { waivers = 3 }) 4 ES ≡ marked 2 (ES_sums ++ (2 ∷ ES) ++ (3 ∷ ES))
  pub only_one : under (record version96 { waivers = 1 }) 3 ES ≡ marked 2 (ES_sums ++ (1 ∷ ES) ++ missing)
  pub no_waivers : under (record version96 { waivers = 0 }) 1 ES ≡ marked 2 (ES_sums ++ missing ++ missing)
  -- the sides go by the set's severe multiple and factor
  pub severe_at_once : under (record version96 { severe = 1 }) 4 ES ≡ marked 1 (14300000 ∷ 10000000 ∷ [])
  pub own_factor : under (record version96 { factor2 = 1; severe = 2 }) 1 CL ≡ marked 1 (3000000 ∷ 2000000 ∷ [])
  -- version 9.6 written out says the same as leaving it out
  pub written_out : under version96 4 ES ≡ reason_answer all_days full_book ABC 4 ES []
  -- 15, also of codes of another length; 16, on day 0 and past the month
  pub unknown_group : refusing ABC 1 XX [] ≡ refused 15 0
  pub short_code : refusing ABC 1 (69 ∷ []) [] ≡ refused 15 0
  pub long_code : refusing ABC 1 (69 ∷ 83 ∷ 69 ∷ []) [] ≡ refused 15 0
  pub day_0 : refusing ABC 0 ES [] ≡ refused 16 0
  pub day_32 : refusing ABC 32 ES [] ≡ refused 16 0
  -- 8 before 15, 15 before 16 and 21, 16 before 21, 21 before 34 and 35; 22
  pub short_book : reason_answer three_groups [] ABC 1 XX [] ≡ refused 8 0
  pub both_unknown : refusing ABC 0 XX [] ≡ refused 15 0
  pub group_first : refusing ZZZ 1 XX [] ≡ refused 15 0
  pub day_first : refusing ZZZ 0 ES [] ≡ refused 16 0
  pub before_34 : refusing ZZZ 1 ES (take 9 (grant ABC 1 69 83)) ≡ refused 21 0
  pub before_35 : refusing ZZZ 1 ES (grant ABC 1 88 88) ≡ refused 21 0
  pub spoilt_book : reason_answer three_groups (table (per_firm_group * 3) (λ i. 10000000001)) ABC 1 ES [] ≡ refused 22 0
  pub cut_grant : refusing ABC 1 ES (take 9 (grant ABC 1 69 83)) ≡ refused 34 0
  pub no_such_cell : refusing ABC 1 ES (grant ABC 1 88 88) ≡ refused 35 0

pub example : Example
unfolding posted taking totals_of correction_fields check_book check_of scan ending with_record cause is_repeated fields_ok constants_in_order
    constants_in_range is_full length_ok is_due kind_of firm_listed group_listed firm_is group_is group_start firm_ok firm_fields has_code
    group_in_range group_fields contracts_ok contract_bad before contract listed head_ok head_fields is_letter contract_is is_counted is_after
    in_front contract_counted contract_listed days_in sum joined seek_in last_below all choose u32_at u16_at rules_of constants_fields in_range
    in_order verdict any_excess month_answer granted_answer values_at reason_answer
example =
    record {
      automatic = refl;
      second = refl;
      other_grouping = refl;
      billed = refl;
      severe = refl;
      monthly = refl;
      silent = refl;
      closed = refl;
      open_day = refl;
      granted_severe = refl;
      granted_billed = refl;
      granted_automatic = refl;
      lowest_tier = refl;
      highest_tier = refl;
      same_day = refl;
      last_two_of_three = refl;
      only_one = refl;
      no_waivers = refl;
      severe_at_once = refl;
      own_factor = refl;
      written_out = refl;
      unknown_group = refl;
      short_code = refl;
      long_code = refl;
      day_0 = refl;
      day_32 = refl;
      short_book = refl;
      both_unknown = refl;
      group_first = refl;
      day_first = refl;
      before_34 = refl;
      before_35 = refl;
      spoilt_book = refl;
      cut_grant = refl;
      no_such_cell = refl;
    }
