-- What report answers, and what it leaves in the output. I is the input, O the output before it.
-- Assumes nothing.
use Rattle.std.specs.Prelude.{ℕ, cond, List, Result, Ok, Err, ◌≡◌, eqb, length}
use Rattle.std.proofs.Math.Seq.{paste}
use Rattle.text.specs.Text.{room}
use Rattle.report.specs.Report.{report}
use Rattle.report.specs.declared.Cut.{Cut}

-- the bytes of the program's output
abbrev pub output_size : ℕ
output_size = 524288

-- the whole text stands in the output, or it was cut; with the bytes written
pub data Answer : Type 0 where
  whole : (bytes : ℕ) → Answer
  cut : (bytes : ℕ) → Answer

-- the bytes written
abbrev pub bytes_of : Answer → ℕ
bytes_of (whole bytes) = bytes
bytes_of (cut bytes) = bytes

-- what each answer of report means
abbrev pub report_meaning : Result ℕ Cut → Answer
report_meaning (Ok bytes) = whole bytes
report_meaning (Err c) = cut c.bytes

module _ (I O : List ℕ) where
  -- the text is whole where all of it has room
  abbrev pub report_answer : Answer
  report_answer = let n = room O 0 (report I) in cond (eqb n (length (report I))) (whole n) (cut n)

  -- as much of the text as there is room for stands over the output's front; later bytes stay
  abbrev pub report_output : List ℕ
  report_output = paste O 0 (report I) (room O 0 (report I))

-- what report promises, of its answer r and the output O' that it leaves
pub record ReportIs (I O : List ℕ) (r : Result ℕ Cut) (O' : List ℕ) : Type 0 where
  pub answer : report_meaning r ≡ report_answer I O
  pub output : O' ≡ report_output I O
