-- The fields of the totals in the record's order, each after the last.
use Rattle.text.specs.Lines.{totals_line}
use Rattle.text.proofs.Writing.{◌then◌}
use Rattle.text.proofs.Output.put_totals.Goals as goal

pub returns : goal.returns
unfolding totals_line
returns c =
    rw (← c.byte_at.ensures, ← c.from.ensures)
    (c.put.ensures then c.put-2.ensures then c.put_field.ensures then c.put-3.ensures then c.put_counts.ensures then c.put-4.ensures)
