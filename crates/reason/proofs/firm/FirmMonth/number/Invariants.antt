-- The number is one more than the automatic lines of the grouping that were passed.
use Rattle.std.proofs.Common.{◌≡◌, ◌+◌}
use Rattle.wire.specs.Sums.{count}
use Rattle.reason.specs.Parts.{automatic_in}
use Rattle.reason.proofs.firm.FirmMonth.number.Given as goal

abbrev pub invariant-loop-k : goal.invariant-loop-k
invariant-loop-k l = l.number ≡ count l.k (automatic_in l.self l.e) + 1
