-- What a firm's lines come to: those of its statement without grants, or the number of a refusal.
use Prim.Native.Nat.{ℕ, ◌≤◌}
use mathlib.Core.List.{List, []}
use mathlib.Core.Path.{◌≡◌, sym, ◌∙◌}
use lib.ListN.{length}
use Rattle.lookup.specs.declared.Layout.{Layout}
use Rattle.statement.specs.Layout.{both_totals, largest}
use Rattle.refusals.specs.Outcome.{Outcome, refused, good}
use Rattle.statement.specs.Statement.{statement_answer, StatementIs}
use Rattle.statement.proofs.Answers.{written_bounds}
use Rattle.text.specs.Lines.{refused_line}
use Rattle.report.specs.Report.{zeros, statement_lines, code_of, statement_of}

-- a statement of the firm with the code C, the answer a, and the output before and after it
module _ (S B : List ℕ) {C out R : List ℕ} {a : Outcome ℕ} (s : StatementIs S B C [] out a R) where
  answered : {b : Outcome ℕ} → a ≡ b → statement_answer S B C [] out ≡ b
  answered e = sym s.answer ∙ e

  -- where it was written it has its two totals, and stands within the output
  pub lines_within : {n : ℕ} → a ≡ good n → (both_totals ≤ n) × (n ≤ length out)
  lines_within e = written_bounds S B C [] out (answered e)

  -- C is firm f's code, and the output was blank
  module _ (l : Layout) (f : ℕ) (code : C ≡ code_of S l f) (blank : out ≡ zeros largest) where
    -- a refused statement
    pub lines_refused : {n o : ℕ} → a ≡ refused n o → refused_line n ≡ statement_of S l B f
    unfolding statement_of
    lines_refused e = rw (← code, ← blank, answered e)

    -- a statement that was written
    pub lines_written : {n : ℕ} → a ≡ good n → statement_lines C R n ≡ statement_of S l B f
    unfolding statement_of
    lines_written e = rw (s.output, ← code, ← blank, answered e)
