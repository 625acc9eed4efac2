-- Computed examples of what mep-statement prints: document 01's whole run, what is refused, a text that is cut, and (document 02, 2.3) activity that
-- begins with a correction. 2.6: totals lines have a 0 after automatic.
-- Assumes nothing.
use Rattle.std.specs.Prelude.{ℕ, List, [], ◌∷◌, ◌++◌, ◌≡◌, refl}
use Rattle.wire.specs.Bytes.{u16_at, u32_at}
use Rattle.wire.specs.Choose.{choose, all, seek_in}
use Rattle.wire.specs.Cut.{first_length, cut_in}
use Rattle.wire.specs.Lists.{joined}
use Rattle.wire.specs.Sums.{sum}
use Rattle.calendar.specs.Calendar.{days_in}
use Rattle.rules.specs.Verdict.{verdict}
use Rattle.records.specs.Fields.{head_fields, head_ok, group_fields, group_in_range, is_letter, firm_fields, firm_ok, has_code}
use Rattle.contracts.specs.Listing.{contracts_ok, contract_bad, before, contract, listed}
use Rattle.contracts.specs.Counted.{contract_listed, contract_counted, in_front, is_after, is_counted, contract_is}
use Rattle.lookup.specs.Lookup.{group_start, group_is, firm_is, group_listed, firm_listed}
use Rattle.lookup.specs.InForce.{rules_of}
use Rattle.schedule.specs.Check.{check_of, scan, ending, with_record, cause, is_repeated, fields_ok, constants_in_order, constants_in_range, is_full, length_ok, is_due, kind_of}
use Rattle.activity.specs.Activity.{totals_of}
use Rattle.activity.specs.Correction.{correction_fields}
use Rattle.book.specs.Book.{check_book}
use Rattle.book.specs.Post.{taking}
use Rattle.accepted.specs.Accepted.{posted}
use Rattle.schedule.specs.Samples.{firm}
use Rattle.accepted.specs.Samples.{activity, correction, three_groups, many_marks}
use Rattle.month.specs.Month.{any_excess, month_answer}
use Rattle.grants.specs.Month.{granted_answer}
use Rattle.statement.specs.Lines.{line_at, tally, shown}
use Rattle.guarantee.specs.Example.{schedule, run}
use Rattle.text.specs.Text.{text, decimal}
use Rattle.text.specs.Lines.{refused_at, heading, refused_line, mark_word, counts, violation_line, totals_line}
use Rattle.input.specs.Input.{bytes_before, records_from}
use Rattle.report.specs.Report.{zeros, post_lines, statement_lines, statement_of, month_lines, report}
use Rattle.report.specs.Answer.{whole, cut, report_answer, report_output}

-- records as one run of bytes
abbrev flat : List (List ℕ) → List ℕ
flat [] = []
flat (R ∷ rs) = R ++ flat rs

-- after the activity a firm's record, which is no activity, and a tail of two bytes
abbrev late : List ℕ
late = firm ++ 44 ∷ 0 ∷ []

-- a correction of ABC in ES on day 1 to the fifth marked day, then an order in that cell
abbrev corrected : List ℕ
corrected = correction 69 83 1 1 122000 143000 10000 ++ activity 69 83 1 24239 1 0 0 0 0 0 0 0

pub record Example : Type 0 where
  -- document 01's whole run
  pub whole_run :
      report (schedule ++ flat run)
      ≡ text "MPS 24237\n"
      ++ text "ABC 1 ES automatic 0\n"
      ++ text "ABC 2 ES automatic 0\n"
      ++ text "ABC 3 ES billed 1000\n"
      ++ text "ABC 4 ES severe 1000\n"
      ++ text "ABC grouping 1: 4 0 2 0 2 2000\n"
      ++ text "ABC grouping 2: 0 0 0 0 0 0\n"
  -- all four marks of document 01, both exchange groupings, and two refused records, whose lines come before the firm's
  pub four_marks :
      report (three_groups ++ flat many_marks ++ late)
      ≡ text "MPS 24237\n"
      ++ text "refused 12\n"
      ++ text "refused 11\n"
      ++ text "ABC 1 ES automatic 0\n"
      ++ text "ABC 1 CL automatic 0\n"
      ++ text "ABC 1 ZC monthly 0\n"
      ++ text "ABC 3 ES automatic 0\n"
      ++ text "ABC 4 ES billed 1000\n"
      ++ text "ABC 5 ES severe 1000\n"
      ++ text "ABC grouping 1: 5 1 2 0 2 2000\n"
      ++ text "ABC grouping 2: 1 0 1 0 0 0\n"
  -- 2.3: the first kind 8 begins the activity; the order is refused
  pub correction_first :
      report (schedule ++ corrected)
      ≡ text "MPS 24237\n"
      ++ text "refused 32\n"
      ++ text "ABC 1 ES automatic 0\n"
      ++ text "ABC grouping 1: 1 0 1 0 0 0\n"
      ++ text "ABC grouping 2: 0 0 0 0 0 0\n"
  -- no activity: all is schedule, and the firm has its totals
  pub quiet :
      report schedule
      ≡ text "MPS 24237\n"
      ++ text "ABC grouping 1: 0 0 0 0 0 0\n"
      ++ text "ABC grouping 2: 0 0 0 0 0 0\n"
  -- a refused schedule prints only its number and offset: no bytes; a firm first; a tail before any activity
  pub no_bytes : report [] ≡ text "refused 4 at 0\n"
  pub firm_first : report firm ≡ text "refused 2 at 0\n"
  pub tail : report (schedule ++ 44 ∷ 0 ∷ []) ≡ text "refused 1 at 35\n"
  -- a text of 15 bytes: whole in an output of 16, cut in one of 14
  pub whole_answer : report_answer [] (zeros 16) ≡ whole 15
  pub whole_output : report_output [] (zeros 16) ≡ text "refused 4 at 0\n" ++ 0 ∷ []
  pub cut_answer : report_answer [] (zeros 14) ≡ cut 14
  pub cut_output : report_output [] (zeros 14) ≡ text "refused 4 at 0"

pub example : Example
unfolding posted taking totals_of correction_fields check_book check_of scan ending with_record cause is_repeated fields_ok constants_in_order
    constants_in_range is_full length_ok is_due kind_of firm_listed group_listed firm_is group_is group_start firm_ok firm_fields has_code
    group_in_range group_fields contracts_ok contract_bad before contract listed head_ok head_fields is_letter contract_is is_counted is_after
    in_front contract_counted contract_listed days_in sum joined seek_in all choose u32_at u16_at rules_of verdict any_excess month_answer
    granted_answer line_at tally shown first_length cut_in bytes_before records_from decimal refused_at heading refused_line mark_word counts
    violation_line totals_line statement_lines zeros post_lines statement_of month_lines report
example =
    record {
      whole_run = refl;
      four_marks = refl;
      correction_first = refl;
      quiet = refl;
      no_bytes = refl;
      firm_first = refl;
      tail = refl;
      whole_answer = refl;
      whole_output = refl;
      cut_answer = refl;
      cut_output = refl;
    }
