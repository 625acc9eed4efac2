-- After i turns the first i digits of the text stand over the array's part that has room for them.
use Rattle.std.proofs.Common.{◌≡◌}
use Rattle.wire.specs.Lists.{table, over}
use Rattle.cases.specs.Hex.{hex_at}
use Rattle.cases.proofs.hex.put_hex.Given as goal

abbrev pub invariant-loop-i : goal.invariant-loop-i
invariant-loop-i l = l.digit-items ≡ over (table l.i (hex_at l.bytes)) l.initial.digit-items
