-- Where too few bytes are left for a line, all are shown.
use Rattle.std.proofs.Common.{arith}
use Rattle.report.proofs.Violations.{showing_all}
use Rattle.report.proofs.firms.put_violations.Goals as goal

pub returns : goal.returns
returns c =
    let so_far = c.loop-line.invariant in
    showing_all _ _ _ so_far.0 (omega (arith, so_far.1, c.in-None.ensures.steps.1.0))
