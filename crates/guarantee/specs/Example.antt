-- Computed examples: the statement of document 01's whole run, byte by byte (its lines are those of document 02, 2.1), and one that has all four marks
-- of document 01, all three tiers and both exchange groupings; a month in which traffic falls and the amount with it; one that shows why demand 3 asks
-- that no raw count above zero becomes zero; (document 02, 2.3) one whose amount rises by activity and falls by a correction; and (2.6) the run's
-- statement with grants, and two pairs of months that show why demand 3 asks that the grants are the same and name no severe day.
-- Assumes nothing.
use Rattle.std.specs.Prelude.{ℕ, ◌+◌, ◌*◌, Bool, true, not, ◌&&◌, ◌||◌, List, [], ◌∷◌, ◌++◌, ◌≡◌, refl, leb, ltb, take}
use Rattle.wire.specs.Bytes.{u16_at, u32_at}
use Rattle.wire.specs.Choose.{choose, all, seek_in}
use Rattle.wire.specs.Lists.{joined, table}
use Rattle.wire.specs.Sums.{sum, count}
use Rattle.calendar.specs.Calendar.{days_in}
use Rattle.rules.specs.Verdict.{verdict, is_severe}
use Rattle.rules.specs.Marks.{places, Judged}
use Rattle.rules.specs.declared.Totals.{Totals}
use Rattle.records.specs.Fields.{head_fields, head_ok, group_fields, group_in_range, is_letter, firm_fields, firm_ok, has_code}
use Rattle.contracts.specs.Listing.{contracts_ok, contract_bad, before, contract, listed}
use Rattle.contracts.specs.Counted.{contract_listed, contract_counted, in_front, is_after, is_counted, contract_is}
use Rattle.refusals.specs.Outcome.{Outcome, refused, good}
use Rattle.lookup.specs.Lookup.{group_start, group_is, firm_is, group_listed, firm_listed}
use Rattle.lookup.specs.InForce.{rules_of}
use Rattle.schedule.specs.Check.{check_of, scan, ending, with_record, cause, is_repeated, fields_ok, constants_in_order, constants_in_range, is_full, length_ok, is_due, kind_of}
use Rattle.activity.specs.Activity.{totals_of}
use Rattle.activity.specs.Correction.{correction_fields}
use Rattle.cell.specs.Cell.{none}
use Rattle.book.specs.Book.{per_firm_group, index, with_cell, check_book, open_book}
use Rattle.book.specs.Post.{taking}
use Rattle.accepted.specs.Accepted.{accepted_cells, posted}
use Rattle.schedule.specs.Samples.{head, group, ABC, firm}
use Rattle.accepted.specs.Samples.{correction, orders, fifth, ninth, three_groups, many_marks}
use Rattle.month.specs.Month.{any_excess, month_answer}
use Rattle.grants.specs.Grants.{grants_causes}
use Rattle.grants.specs.Month as months
use Rattle.grants.specs.Example.{grant}
use Rattle.statement.specs.Lines.{line_at, tally, shown}
use Rattle.statement.specs.Statement.{statement_answer, statement_output}
use Rattle.guarantee.specs.Demand3.{layout, is_listed, totals_after, month_after, amount_after, Run, Falls, SameGrants}

-- document 01's schedule: October 2019, every day in effect, ES of grouping 1, ABC
abbrev pub schedule : List ℕ
schedule = head 0 ++ group 69 83 1 ++ firm

-- the totals of grouping 2 without a violation
abbrev pub no_violations : List ℕ
no_violations = 20 ∷ 0 ∷ 19 ∷ 0 ∷ 2 ∷ 0 ∷ 0 ∷ 0 ∷ 0 ∷ 0 ∷ 0 ∷ 0 ∷ 0 ∷ 0 ∷ 0 ∷ 0 ∷ 0 ∷ 0 ∷ 0 ∷ 0 ∷ []

-- document 01's whole run
abbrev pub run : List (List ℕ)
run = fifth 69 83 1 10000 ∷ fifth 69 83 2 10000 ∷ fifth 69 83 3 10000 ∷ ninth 69 83 4 ∷ []

-- its statement: two days automatic, one billed, one severe, all in the highest tier; grouping 1: 4 0 2 0 2 2000; grouping 2: 0 0 0 0 0 0
abbrev run_bytes : List ℕ
run_bytes =
    (13 ∷ 0 ∷ 18 ∷ 0 ∷ 1 ∷ 69 ∷ 83 ∷ 4 ∷ 0 ∷ 0 ∷ 0 ∷ 0 ∷ 1 ∷ [])
    ++ (13 ∷ 0 ∷ 18 ∷ 0 ∷ 2 ∷ 69 ∷ 83 ∷ 4 ∷ 0 ∷ 0 ∷ 0 ∷ 0 ∷ 1 ∷ [])
    ++ (13 ∷ 0 ∷ 18 ∷ 0 ∷ 3 ∷ 69 ∷ 83 ∷ 2 ∷ 232 ∷ 3 ∷ 0 ∷ 0 ∷ 1 ∷ [])
    ++ (13 ∷ 0 ∷ 18 ∷ 0 ∷ 4 ∷ 69 ∷ 83 ∷ 1 ∷ 232 ∷ 3 ∷ 0 ∷ 0 ∷ 1 ∷ [])
    ++ (20 ∷ 0 ∷ 19 ∷ 0 ∷ 1 ∷ 0 ∷ 4 ∷ 0 ∷ 0 ∷ 0 ∷ 2 ∷ 0 ∷ 0 ∷ 0 ∷ 2 ∷ 0 ∷ 208 ∷ 7 ∷ 0 ∷ 0 ∷ [])
    ++ no_violations

-- by day, then by the group's place: the waivers of CL are its own, ZC is exempt, and each line has its own day's factor; grouping 1:
-- 5 1 2 0 2 2000; grouping 2: 1 0 1 0 0 0
abbrev many_bytes : List ℕ
many_bytes =
    (13 ∷ 0 ∷ 18 ∷ 0 ∷ 1 ∷ 69 ∷ 83 ∷ 4 ∷ 0 ∷ 0 ∷ 0 ∷ 0 ∷ 1 ∷ [])
    ++ (13 ∷ 0 ∷ 18 ∷ 0 ∷ 1 ∷ 67 ∷ 76 ∷ 4 ∷ 0 ∷ 0 ∷ 0 ∷ 0 ∷ 2 ∷ [])
    ++ (13 ∷ 0 ∷ 18 ∷ 0 ∷ 1 ∷ 90 ∷ 67 ∷ 3 ∷ 0 ∷ 0 ∷ 0 ∷ 0 ∷ 1 ∷ [])
    ++ (13 ∷ 0 ∷ 18 ∷ 0 ∷ 3 ∷ 69 ∷ 83 ∷ 4 ∷ 0 ∷ 0 ∷ 0 ∷ 0 ∷ 1 ∷ [])
    ++ (13 ∷ 0 ∷ 18 ∷ 0 ∷ 4 ∷ 69 ∷ 83 ∷ 2 ∷ 232 ∷ 3 ∷ 0 ∷ 0 ∷ 1 ∷ [])
    ++ (13 ∷ 0 ∷ 18 ∷ 0 ∷ 5 ∷ 69 ∷ 83 ∷ 1 ∷ 232 ∷ 3 ∷ 0 ∷ 0 ∷ 3 ∷ [])
    ++ (20 ∷ 0 ∷ 19 ∷ 0 ∷ 1 ∷ 0 ∷ 5 ∷ 0 ∷ 1 ∷ 0 ∷ 2 ∷ 0 ∷ 0 ∷ 0 ∷ 2 ∷ 0 ∷ 208 ∷ 7 ∷ 0 ∷ 0 ∷ [])
    ++ (20 ∷ 0 ∷ 19 ∷ 0 ∷ 2 ∷ 0 ∷ 1 ∷ 0 ∷ 0 ∷ 0 ∷ 1 ∷ 0 ∷ 0 ∷ 0 ∷ 0 ∷ 0 ∷ 0 ∷ 0 ∷ 0 ∷ 0 ∷ [])

-- what the statement with the grants G answers after a list, to a book of so many groups and an output of 120 sevens
abbrev pub answers : (S : List ℕ) → (groups : ℕ) → List (List ℕ) → (G : List ℕ) → Outcome ℕ
answers S groups rs G = statement_answer S (posted S (open_book S (table (per_firm_group * groups) (λ i. 9))) rs) ABC G (table 120 (λ i. 7))

-- and what it leaves in that output
abbrev pub leaves : (S : List ℕ) → (groups : ℕ) → List (List ℕ) → (G : List ℕ) → List ℕ
leaves S groups rs G = statement_output S (posted S (open_book S (table (per_firm_group * groups) (λ i. 9))) rs) ABC G (table 120 (λ i. 7))

-- grants for the run's severe day, twice, for an automatic one, and for a day without a violation
abbrev granted_days : List ℕ
granted_days = grant ABC 4 69 83 ++ grant ABC 1 69 83 ++ grant ABC 4 69 83 ++ grant ABC 9 69 83

-- the run's statement with them: the severe day has mark 5, and the other lines are the same; grouping 1: 4 0 2 1 1 1000
abbrev granted_bytes : List ℕ
granted_bytes =
    (13 ∷ 0 ∷ 18 ∷ 0 ∷ 1 ∷ 69 ∷ 83 ∷ 4 ∷ 0 ∷ 0 ∷ 0 ∷ 0 ∷ 1 ∷ [])
    ++ (13 ∷ 0 ∷ 18 ∷ 0 ∷ 2 ∷ 69 ∷ 83 ∷ 4 ∷ 0 ∷ 0 ∷ 0 ∷ 0 ∷ 1 ∷ [])
    ++ (13 ∷ 0 ∷ 18 ∷ 0 ∷ 3 ∷ 69 ∷ 83 ∷ 2 ∷ 232 ∷ 3 ∷ 0 ∷ 0 ∷ 1 ∷ [])
    ++ (13 ∷ 0 ∷ 18 ∷ 0 ∷ 4 ∷ 69 ∷ 83 ∷ 5 ∷ 0 ∷ 0 ∷ 0 ∷ 0 ∷ 1 ∷ [])
    ++ (20 ∷ 0 ∷ 19 ∷ 0 ∷ 1 ∷ 0 ∷ 4 ∷ 0 ∷ 0 ∷ 0 ∷ 2 ∷ 0 ∷ 1 ∷ 0 ∷ 1 ∷ 0 ∷ 232 ∷ 3 ∷ 0 ∷ 0 ∷ [])
    ++ no_violations

-- a grant that is cut at nine bytes, and one of an unlisted firm
abbrev cut_grant : List ℕ
cut_grant = take 9 (grant ABC 4 69 83)

abbrev unlisted_grant : List ℕ
unlisted_grant = grant (90 ∷ 90 ∷ 90 ∷ []) 4 69 83

-- what the statement answers to them into an output of no bytes
abbrev into_none : (G : List ℕ) → Outcome ℕ
into_none G = statement_answer schedule (open_book schedule (table per_firm_group (λ i. 9))) ABC G []

-- the run with more lots on day 3
abbrev pub eased : List (List ℕ)
eased = fifth 69 83 1 10000 ∷ fifth 69 83 2 10000 ∷ fifth 69 83 3 20000 ∷ ninth 69 83 4 ∷ []

-- three failing days, and one with a single message and many lots
abbrev excused : List (List ℕ)
excused = fifth 69 83 1 10000 ∷ fifth 69 83 2 10000 ∷ fifth 69 83 3 10000 ∷ orders 69 83 4 1 0 0 1000000 ∷ []

-- the same without that message
abbrev silent : List (List ℕ)
silent = fifth 69 83 1 10000 ∷ fifth 69 83 2 10000 ∷ fifth 69 83 3 10000 ∷ orders 69 83 4 0 0 0 1000000 ∷ []

-- two failing days
abbrev early : List (List ℕ)
early = fifth 69 83 1 10000 ∷ fifth 69 83 2 10000 ∷ []

-- and a third
abbrev pub reported : List (List ℕ)
reported = early ++ fifth 69 83 3 10000 ∷ []

-- the report of day 3 left lots out: the day is corrected
abbrev pub amended : List (List ℕ)
amended = reported ++ correction 69 83 3 1 122000 143000 20000 ∷ []

-- a severe day, which a grant will name, and two that are waived
abbrev severe_first : List (List ℕ)
severe_first = ninth 69 83 1 ∷ fifth 69 83 2 10000 ∷ fifth 69 83 3 10000 ∷ []

-- with one modification of the first day as a new order, it scores one less and is ordinary (60,001, 60,000, 1,000: the eighth marked day)
abbrev milder_first : List (List ℕ)
milder_first = orders 69 83 1 1 60000 0 1000 ∷ fifth 69 83 2 10000 ∷ fifth 69 83 3 10000 ∷ []

-- grants for an automatic and the billed day of the run
abbrev pub some_days : List ℕ
some_days = grant ABC 1 69 83 ++ grant ABC 3 69 83

-- no grant names place i, or it is not severe
abbrev pub is_spared : Judged → (i : ℕ) → Bool
is_spared j i = not (j.named i && is_severe (j.verdict i).code)

-- a book with this edition in the cell of day 1, and else as open leaves it
abbrev with_edition : (n : ℕ) → List ℕ
with_edition n = with_cell (open_book schedule (table per_firm_group (λ i. 9))) (index 1 0 0 1) (record { totals = none; edition = n })

-- raw and score no larger and lots no smaller
abbrev pub is_lighter : (t' t : Totals) → Bool
is_lighter t' t = leb t'.raw t.raw && (leb t'.score t.score && leb t.lots t'.lots)

-- a raw count above zero does not become zero
abbrev pub is_kept : (t' t : Totals) → Bool
is_kept t' t = leb t.raw 0 || ltb 0 t'.raw

-- on how many of the 31 days a test holds of a firm's accepted totals after the second list and after the first, in the first group
abbrev pub days_where : ((t' t : Totals) → Bool) → (S C : List ℕ) → (first second : List (List ℕ)) → ℕ
days_where is_so S C first second = count 31 (λ i. is_so (totals_after S C second 0 (i + 1)) (totals_after S C first 0 (i + 1)))

pub record Example : Type 0 where
  pub run_answer : answers schedule 1 run [] ≡ good 92
  pub run_output : leaves schedule 1 run [] ≡ run_bytes ++ table 28 (λ i. 7)
  pub many_answer : answers three_groups 3 many_marks [] ≡ good 118
  pub many_output : leaves three_groups 3 many_marks [] ≡ many_bytes ++ table 2 (λ i. 7)
  -- 2.6: the same run with grants; and 34 and 35 come before 23
  pub granted_answer : answers schedule 1 run granted_days ≡ good 92
  pub granted_output : leaves schedule 1 run granted_days ≡ granted_bytes ++ table 28 (λ i. 7)
  pub cut_first : into_none cut_grant ≡ refused 34 0
  pub unlisted_first : into_none unlisted_grant ≡ refused 35 0
  pub then_too_short : into_none granted_days ≡ refused 23 0
  -- traffic falls: with more lots on day 3 it passes, and is billed no longer
  pub one_group : (layout schedule).groups ≡ 1
  pub eased_lighter : days_where is_lighter schedule ABC run eased ≡ 31
  pub eased_kept : days_where is_kept schedule ABC run eased ≡ 31
  pub run_amount : amount_after schedule ABC run [] 1 ≡ 2000
  pub eased_amount : amount_after schedule ABC eased [] 1 ≡ 1000
  -- where a raw count above zero becomes zero the amount may rise: lots of a day without messages are not summed, and the exemption is lost
  pub silent_lighter : days_where is_lighter schedule ABC excused silent ≡ 31
  pub silent_kept : days_where is_kept schedule ABC excused silent ≡ 30
  pub excused_amount : amount_after schedule ABC excused [] 1 ≡ 0
  pub silent_amount : amount_after schedule ABC silent [] 1 ≡ 1000
  -- 2.3: the amount rises by activity, and falls by a correction, which makes the month lighter
  pub early_amount : amount_after schedule ABC early [] 1 ≡ 0
  pub reported_amount : amount_after schedule ABC reported [] 1 ≡ 1000
  pub amended_lighter : days_where is_lighter schedule ABC reported amended ≡ 31
  pub amended_kept : days_where is_kept schedule ABC reported amended ≡ 31
  pub amended_amount : amount_after schedule ABC amended [] 1 ≡ 0
  -- 2.3: 22 looks at editions too
  pub full_edition : statement_answer schedule (with_edition 10000000000) ABC [] (table 40 (λ i. 7)) ≡ good 40
  pub spoilt_edition : statement_answer schedule (with_edition 10000000001) ABC [] (table 40 (λ i. 7)) ≡ refused 22 0
  -- 2.6: where a grant names a day that is severe in the first month, the amount may rise as traffic falls: the day becomes ordinary, and takes an
  -- automatic waiver from a later one, which is billed
  pub severe_lighter : days_where is_lighter schedule ABC severe_first milder_first ≡ 31
  pub severe_kept : days_where is_kept schedule ABC severe_first milder_first ≡ 31
  pub severe_granted : amount_after schedule ABC severe_first (grant ABC 1 69 83) 1 ≡ 0
  pub milder_granted : amount_after schedule ABC milder_first (grant ABC 1 69 83) 1 ≡ 1000
  -- 2.6: and where the grants differ, though no message does: day 3 is billed without its grant
  pub with_grant : amount_after schedule ABC run (grant ABC 3 69 83) 1 ≡ 1000
  pub without_grant : amount_after schedule ABC run [] 1 ≡ 2000
  -- 2.6: grants of a listed firm that 34 and 35 don't refuse, and that name no severe day of the run
  pub is_firm : is_listed schedule ABC ≡ true
  pub some_taken : choose (grants_causes schedule (layout schedule) some_days) 0 ≡ 0
  pub some_spared : count places (is_spared (month_after schedule ABC run some_days)) ≡ places

-- so demand 3 applies to the first pair, with those grants, and to the correction: proved in proofs/Applied.antt
pub record Applies : Type 0 where
  pub lots : Falls schedule ABC run eased
  pub grants : (p q : Run schedule ABC) → p.posts ≡ run → p.grants ≡ some_days → q.grants ≡ some_days → SameGrants schedule ABC p q
  pub correction : Falls schedule ABC reported amended

pub example : Example
unfolding accepted_cells posted taking totals_of correction_fields check_book check_of scan ending with_record cause is_repeated fields_ok
    constants_in_order constants_in_range is_full length_ok is_due kind_of firm_listed group_listed firm_is group_is group_start firm_ok firm_fields
    has_code group_in_range group_fields contracts_ok contract_bad before contract listed head_ok head_fields is_letter contract_is is_counted
    is_after in_front contract_counted contract_listed days_in sum joined seek_in all choose u32_at u16_at rules_of verdict any_excess month_answer
    months.granted_answer line_at tally shown
example =
    record {
      run_answer = refl;
      run_output = refl;
      many_answer = refl;
      many_output = refl;
      granted_answer = refl;
      granted_output = refl;
      cut_first = refl;
      unlisted_first = refl;
      then_too_short = refl;
      one_group = refl;
      eased_lighter = refl;
      eased_kept = refl;
      run_amount = refl;
      eased_amount = refl;
      silent_lighter = refl;
      silent_kept = refl;
      excused_amount = refl;
      silent_amount = refl;
      early_amount = refl;
      reported_amount = refl;
      amended_lighter = refl;
      amended_kept = refl;
      amended_amount = refl;
      full_edition = refl;
      spoilt_edition = refl;
      severe_lighter = refl;
      severe_kept = refl;
      severe_granted = refl;
      milder_granted = refl;
      with_grant = refl;
      without_grant = refl;
      is_firm = refl;
      some_taken = refl;
      some_spared = refl;
    }
