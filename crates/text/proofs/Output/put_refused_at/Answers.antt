-- The refusal's number between its texts, then its offset.
use Rattle.text.specs.Lines.{refused_at}
use Rattle.text.proofs.Writing.{◌then◌}
use Rattle.text.proofs.Output.put_refused_at.Goals as goal

pub returns : goal.returns
unfolding refused_at
returns c = (rw c.from.ensures at c.put_number.ensures) then c.put_decimal.ensures then c.put.ensures
