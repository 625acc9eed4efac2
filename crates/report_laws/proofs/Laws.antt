-- The laws of reports.
use Prim.Native.Nat.{ℕ, ◌≤◌, ◌<◌, zero-le}
use mathlib.Core.Bool.{Bool, true, false, cond}
use mathlib.Core.List.{List, [], ◌∷◌}
use mathlib.Core.Path.{◌≡◌, ◌∙◌}
use native.Mathlib.Nat.{le_refl, zero-add}
use native.Mathlib.Omega.{arith}
use lib.Dec.{lit<}
use lib.ListN.{length, take, get_or, set}
use lib.Seq.{take_all, take-paste, get_or-set_other}
use borrow.Author.Tests.{eq-eqb}
use Rattle.wire.specs.Bytes.{are_bytes, u16_at, u32_at}
use Rattle.wire.specs.Choose.{all}
use Rattle.wire.specs.Cut.{cut}
use Rattle.std.specs.Cmp.{second_so}
use Rattle.wire.proofs.Cut.{cut-bytes}
use Rattle.accepted.specs.Accepted.{of_bytes}
use Rattle.input.specs.Input.{begins_activity, records_from, activity_of}
use Rattle.statement.specs.Layout.{factor_at}
use Rattle.text.specs.Text.{room}
use Rattle.text.specs.Lines.{violation_line}
use Rattle.report.specs.Report.{report}
use Rattle.report.specs.Answer.{output_size, whole, report_answer, report_output}
use Rattle.report_laws.specs.Laws.{Laws}
use Rattle.report.proofs.Answers.{answer-within}
use Rattle.report_laws.proofs.Bounds.{fits}
use Rattle.report_laws.proofs.FirmShown.{firm_shown}

-- of an output of that size
module _ (I O : List ℕ) (h : output_size ≤ length O) where
  -- all of the report has room
  whole_room : room O 0 (report I) ≡ length (report I)
  whole_room = omega (arith, fits I)

  -- the answer is whole
  answer : report_answer I O ≡ whole (length (report I))
  answer = rw (whole_room, eq-eqb (length (report I)) (length (report I)))

  -- its bytes are the report
  printed : take (length (report I)) (report_output I O) ≡ report I
  printed =
      let n = length (report I) in
      rw (whole_room, zero-add) ((rw zero-add at (take-paste O 0 (report I) n zero-le (le_refl _))) ∙ take_all n (report I) (le_refl _))

-- a line is printed from its first twelve bytes
module _ (C L : List ℕ) (n : ℕ) where
  other : (k : ℕ) → k < factor_at → get_or (set L factor_at n) k 0 ≡ get_or L k 0
  other k h = get_or-set_other L factor_at k n 0 (λ e. omega arith)

  factor_unseen : violation_line C (set L factor_at n) ≡ violation_line C L
  unfolding violation_line u32_at u16_at
  factor_unseen =
      rw (other 4 (lit< tt), other 5 (lit< tt), other 6 (lit< tt), other 7 (lit< tt), other 8 (lit< tt), other 9 (lit< tt), other 10 (lit< tt), other 11 (lit< tt))

-- the records from the first that begins the activity on are of bytes, where all are
from_bytes : (rs : List (List ℕ)) → of_bytes rs ≡ true → of_bytes (records_from rs) ≡ true
unfolding records_from of_bytes all
from_bytes [] e = e
from_bytes (R ∷ rs) e = go (begins_activity R) (from_bytes rs (second_so (are_bytes R) (of_bytes rs) e))
  where
    go : (b : Bool) → of_bytes (records_from rs) ≡ true → of_bytes (cond b (R ∷ rs) (records_from rs)) ≡ true
    go true h = e
    go false h = h

-- an input of bytes is cut into records of bytes
bytes : (I : List ℕ) → are_bytes I ≡ true → of_bytes (activity_of I) ≡ true
unfolding of_bytes
bytes I e = from_bytes (cut I) (cut-bytes (length I) I e)

pub laws : Laws
laws =
    record {
      factor_unseen = factor_unseen;
      fits = fits;
      answer = answer;
      printed = printed;
      within = answer-within;
      firms = firm_shown;
      bytes = bytes;
    }
