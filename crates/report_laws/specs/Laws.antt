-- What holds of every report (document 01, "Eleven marked days, a month and one whole run", and document 02, 2.1, 2.3 and 2.6). Proved in
-- proofs/Laws.antt.
-- Assumes nothing.
use Rattle.std.specs.Prelude.{ℕ, ◌+◌, ◌*◌, ◌≤◌, ◌<◌, true, List, [], ◌++◌, ◌≡◌, length, take, drop, set}
use Rattle.wire.specs.Bytes.{are_bytes}
use Rattle.wire.specs.Lists.{joined}
use Rattle.rules.specs.Marks.{Judged, violations, marked, billed, amount}
use Rattle.refusals.specs.Outcome.{good}
use Rattle.rules.specs.declared.Rules.{Rules}
use Rattle.lookup.specs.InForce.{rules_of}
use Rattle.lookup.specs.declared.Layout.{Layout}
use Rattle.accepted.specs.Accepted.{of_bytes, posted}
use Rattle.book.specs.Book.{check_book, open_book}
use Rattle.statement.specs.Layout.{line_size, factor_at, both_totals, largest}
use Rattle.statement.specs.Statement.{statement_answer, statement_output}
use Rattle.guarantee.specs.Demand3.{month_after, after_lines}
use Rattle.input.specs.Input.{activity_of}
use Rattle.text.specs.Text.{text, field}
use Rattle.text.specs.Lines.{violation_line}
use Rattle.report.specs.Report.{book_size, zeros, code_of, statement_of, report}
use Rattle.report.specs.Answer.{output_size, whole, bytes_of, report_answer, report_output}

-- a firm's totals in the exchange grouping e, of its month j under the rules P: violations, monthly, automatic, a 0 for granted (2.6), billed with severe,
-- and the firm's amount there
abbrev pub month_totals : Rules → (C : List ℕ) → (e : ℕ) → Judged → List ℕ
month_totals P C e j =
    C ++ text " grouping" ++ field e ++ text ":"
    ++ (field (violations j e)
    ++ field (marked P j e 3)
    ++ field (marked P j e 4)
    ++ field 0
    ++ field (billed P j e)
    ++ field (amount P j e))
    ++ text "\n"

-- firm f of the schedule S, after the posts rs to the program's book: its code C, that book B, its statement R, and its month j, which comes from the
-- schedule and the posts alone; 2.6: the program reads no grants
module _ (S : List ℕ) (l : Layout) (rs : List (List ℕ)) (f : ℕ) where
  abbrev C : List ℕ
  C = code_of S l f

  abbrev B : List ℕ
  B = posted S (open_book S (zeros book_size)) rs

  abbrev R : List ℕ
  R = statement_output S B C [] (zeros largest)

  abbrev j : Judged
  j = month_after S C rs []

  -- what the report shows of it
  pub record FirmShown : Type 0 where
    -- its statement is not refused
    pub answer : statement_answer S B C [] (zeros largest) ≡ good (after_lines j + both_totals)
    -- a line for each violation, then the totals of the two exchange groupings, with what the firm owes
    pub shown :
        statement_of S l B f
        ≡ joined (violations j 1 + violations j 2) (λ i. violation_line C (drop (line_size * i) R)) ++ month_totals (rules_of S) C 1 j ++ month_totals (rules_of S) C 2 j

pub record Laws : Type 0 where
  -- 2.1: printed lines don't show the factor: a line is printed the same, whatever its factor byte is
  pub factor_unseen : (C L : List ℕ) (n : ℕ) → violation_line C (set L factor_at n) ≡ violation_line C L
  -- no report is longer than the program's output
  pub fits : (I : List ℕ) → length (report I) ≤ output_size
  -- so in an output of that size it is whole
  pub answer : (I O : List ℕ) → output_size ≤ length O → report_answer I O ≡ whole (length (report I))
  -- and the bytes that the program prints are the report, all of it
  pub printed : (I O : List ℕ) → output_size ≤ length O → take (length (report I)) (report_output I O) ≡ report I
  -- no answer has more bytes than the output
  pub within : (I O : List ℕ) → bytes_of (report_answer I O) ≤ length O
  -- whatever bytes were posted, each of the month's firms has its violations, and totals that add up to its amount
  pub firms : (S : List ℕ) {l : Layout} → check_book S book_size ≡ good l → (rs : List (List ℕ)) → of_bytes rs ≡ true → (f : ℕ) → f < l.firms
      → FirmShown S l rs f
  -- and so of an input of bytes: what it posts is of bytes
  pub bytes : (I : List ℕ) → are_bytes I ≡ true → of_bytes (activity_of I) ≡ true
