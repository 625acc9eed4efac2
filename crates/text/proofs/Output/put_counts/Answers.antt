-- The counts in the record's order, each after the last.
use Rattle.text.specs.Lines.{counts}
use Rattle.text.proofs.Writing.{◌then◌}
use Rattle.text.proofs.Output.put_counts.Goals as goal

pub returns : goal.returns
unfolding counts
returns c =
    rw (← c.u16_at.ensures, ← c.u16_at-2.ensures, ← c.u16_at-3.ensures, ← c.u16_at-4.ensures, ← c.u16_at-5.ensures, ← c.u32_at.ensures)
    (rw (← c.from.ensures, ← c.from-2.ensures, ← c.from-3.ensures, ← c.from-4.ensures, ← c.from-5.ensures, ← c.from-6.ensures)
    (c.put_field.ensures
    then c.put_field-2.ensures
    then c.put_field-3.ensures
    then c.put_field-4.ensures
    then c.put_field-5.ensures
    then c.put_field-6.ensures))
