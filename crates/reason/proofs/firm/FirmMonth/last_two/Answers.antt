-- The last stands among the places.
use Rattle.std.proofs.Common.{sym, ◌∙◌, arith}
use Rattle.wire.proofs.Counts.{last_inside}
use Rattle.reason.proofs.firm.FirmMonth.last_two.Goals as goal

pub last_automatic-requires-2 : goal.last_automatic-requires-2
last_automatic-requires-2 c = omega (arith, last_inside _ _ _ (sym c.last_automatic.ensures ∙ c.in-Some.is))
