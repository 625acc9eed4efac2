-- Three texts, each after the last.
use Rattle.text.proofs.Writing.{◌then◌}
use Rattle.text.proofs.Output.put_number.Goals as goal

pub returns : goal.returns
returns c = c.put.ensures then c.put_decimal.ensures then c.put-2.ensures
