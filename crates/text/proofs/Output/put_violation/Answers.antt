-- The fields of the line in the statement's order, each after the last.
use Rattle.wire.specs.Lists.{joined}
use Rattle.text.specs.Lines.{violation_line}
use Rattle.text.proofs.Writing.{◌then◌}
use Rattle.text.proofs.Output.put_violation.Goals as goal

pub returns : goal.returns
unfolding violation_line joined
returns c =
    rw (← c.byte_at.ensures, ← c.byte_at-2.ensures, ← c.mark_word.ensures, ← c.u32_at.ensures, ← c.from.ensures, ← c.from-2.ensures)
    (c.put.ensures
    then c.put_field.ensures
    then c.put-2.ensures
    then (rw c.bytes_at-group.ensures at c.put-3.ensures)
    then c.put-4.ensures
    then c.put-5.ensures
    then c.put_field-2.ensures
    then c.put-6.ensures)
