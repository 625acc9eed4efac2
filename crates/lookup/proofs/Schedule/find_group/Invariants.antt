-- The walk stands at the start of group i, and the search from there has the same answer as from the first.
use Rattle.std.proofs.Common.{◌≡◌, ◌+◌, ◌*◌, ◌≤◌}
use Rattle.wire.specs.Choose.{seek}
use Rattle.lookup.specs.Lookup.{group_start, group_is}
use Rattle.lookup.proofs.Schedule.find_group.Given as goal

abbrev pub invariant-loop-i : goal.invariant-loop-i
invariant-loop-i l =
    record {
      near : l.at ≤ l.initial.at + 65535 * l.i;
      stands : l.at ≡ group_start l.self.bytes.now l.initial.at l.i;
      seeks : seek 0 l.i-end (group_is l.self.bytes.now l.initial.at l.code) ≡ seek l.i l.i-end (group_is l.self.bytes.now l.initial.at l.code);
    }
