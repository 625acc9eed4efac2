-- The number stands right after the space.
use Rattle.text.proofs.Writing.{◌then◌}
use Rattle.text.proofs.Output.put_field.Goals as goal

pub returns : goal.returns
returns c = c.put.ensures then c.put_decimal.ensures
