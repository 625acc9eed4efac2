-- What report answers once its text is written: the output says whether all of it had room.
use Prim.Native.Nat.{ℕ, ◌≤◌}
use mathlib.Core.Bool.{Bool, true, false, cond}
use mathlib.Core.List.{List}
use mathlib.Core.Path.{◌≡◌, sym, ◌∙◌}
use native.Mathlib.Nat.{zero-add}
use native.Mathlib.Omega.{arith}
use lib.Dec.{eqb}
use lib.ListN.{length}
use Rattle.std.specs.Prelude.{Ok, Err}
use Rattle.text.specs.declared.Output.{Output}
use Rattle.text.specs.Text.{room, Wrote}
use Rattle.report.specs.Report.{report}
use Rattle.report.specs.Answer.{whole, cut, bytes_of, report_answer, report_output, ReportIs}

-- the text was written from the front of the output p on, which was lent O and leaves O' there
module _ (I O : List ℕ) {O' : List ℕ} {p r : Output} (bytes : p.bytes.now ≡ O) (at : p.at ≡ 0) (whole_before : p.whole ≡ true)
    (w : Wrote p (report I) r) (left : O' ≡ r.bytes.now) where
  -- what was written stands there
  output_is : O' ≡ report_output I O
  output_is = left ∙ (rw (bytes, at) at w.output)

  -- all of it had room
  pub is_whole : r.whole ≡ true → ReportIs I O (Ok r.at) O'
  is_whole e =
      let fits : eqb (room O 0 (report I)) (length (report I)) ≡ true = sym (rw (bytes, at, whole_before) at w.whole) ∙ e in
      record { answer = rw (fits, w.next, bytes, at, zero-add); output = output_is }

  -- not all of it had
  pub is_cut : r.whole ≡ false → ReportIs I O (Err (record { bytes = r.at })) O'
  is_cut e =
      let fits : eqb (room O 0 (report I)) (length (report I)) ≡ false = sym (rw (bytes, at, whole_before) at w.whole) ∙ e in
      record { answer = rw (fits, w.next, bytes, at, zero-add); output = output_is }

-- no answer has more bytes than the output
pub answer-within : (I O : List ℕ) → bytes_of (report_answer I O) ≤ length O
answer-within I O = go (eqb n (length (report I)))
  where
    n : ℕ
    n = room O 0 (report I)

    go : (b : Bool) → bytes_of (cond b (whole n) (cut n)) ≤ length O
    go true = omega arith
    go false = omega arith
