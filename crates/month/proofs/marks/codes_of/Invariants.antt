-- The array's front is the codes of the places before i.
use Rattle.std.proofs.Common.{◌≡◌}
use Rattle.wire.specs.Lists.{table, over}
use Rattle.month.specs.Parts.{held_code}
use Rattle.month.proofs.marks.codes_of.Given as goal

abbrev pub invariant-loop-i : goal.invariant-loop-i
invariant-loop-i l = l.code-items ≡ over (table l.i (held_code l.verdicts)) l.initial.code-items
