-- The marks of the places passed are over the front of the codes, and each counter holds how many were left so far in its exchange grouping.
use Rattle.std.proofs.Common.{◌≡◌}
use Rattle.wire.specs.Lists.{table, over}
use Rattle.wire.specs.Sums.{count}
use Rattle.rules.specs.Marks.{left as left_in, mark}
use Rattle.month.specs.Parts.{held}
use Rattle.month.proofs.marks.give_marks.Given as goal

abbrev pub invariant-loop-i : goal.invariant-loop-i
invariant-loop-i l =
    let j = held l.initial.mark-items l.groups in
    record {
      marked : l.mark-items ≡ over (table l.i (mark l.p j)) l.initial.mark-items;
      first : l.left.first ≡ count l.i (left_in j 1);
      second : l.left.second ≡ count l.i (left_in j 2);
    }
