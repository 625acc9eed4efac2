-- The walk stands at the start of the next group, which is written at its place: the array's front is the starts of the groups before it.
use Rattle.std.proofs.Common.{◌≡◌, ◌+◌, ◌*◌, ◌≤◌}
use Rattle.wire.specs.Lists.{table, over}
use Rattle.lookup.specs.Lookup.{group_start}
use Rattle.month.proofs.groups.group_starts.Given as goal

abbrev pub invariant-loop-start : goal.invariant-loop-start
invariant-loop-start l =
    record {
      near : l.at ≤ l.initial.at + 65535 * l.start-index;
      stands : l.at ≡ group_start l.schedule.bytes.now l.initial.at l.start-index;
      written : l.start-items ≡ over (table l.start-index (group_start l.schedule.bytes.now l.initial.at)) l.initial.start-items;
    }
