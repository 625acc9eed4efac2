-- The turn writes the lines of the next firm behind those so far.
use Rattle.text.proofs.Writing.{wrote_more}
use Rattle.report.proofs.firms.put_firms.Goals as goal

pub loop-firm-preserved : goal.loop-firm-preserved
loop-firm-preserved c = wrote_more _ _ c.loop-firm.invariant c.put_firm.ensures
