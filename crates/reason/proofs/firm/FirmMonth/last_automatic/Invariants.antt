-- The last is that of the places passed.
use Rattle.std.proofs.Common.{◌≡◌}
use Rattle.wire.specs.Choose.{last_below}
use Rattle.reason.specs.Parts.{automatic_in}
use Rattle.reason.proofs.firm.FirmMonth.last_automatic.Given as goal

abbrev pub invariant-loop-k : goal.invariant-loop-k
invariant-loop-k l = l.last ≡ last_below l.k (automatic_in l.self l.e)
