-- Both numbers are the counts over the places passed: a turn adds 1 to each where the definition's test holds at its place.
use Rattle.std.proofs.Common.{◌≡◌}
use Rattle.wire.specs.Sums.{count}
use Rattle.contracts.specs.Counted.{in_front, is_late}
use Rattle.contracts.proofs.counted.GroupBody.passed_before.Given as goal

abbrev pub invariant-loop-i : goal.invariant-loop-i
invariant-loop-i l =
    record {
      front : l.front ≡ count l.i (in_front l.self.body.now);
      extra : l.extra ≡ count l.i (is_late l.self.body.now);
    }
