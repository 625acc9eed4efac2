-- An array of so many zeros is a list of that many: by the lemma, since so many cannot be counted one by one.
use Rattle.std.proofs.Common.{ℕ, sym}
use Rattle.std.proofs.Math.ListN.{length-replicate}
use Rattle.report.specs.Answer.{output_size}
use Rattle.mep_statement.proofs.output_buffer.Goals as goal

pub returns : goal.returns
returns c = sym (length-replicate {A = ℕ} output_size 0)
