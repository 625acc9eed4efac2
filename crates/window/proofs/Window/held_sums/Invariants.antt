-- The sums are those of the days before this one, of which none has a total above the limit.
use Rattle.std.proofs.Common.{◌≡◌, true, map}
use Rattle.wire.specs.Choose.{all}
use Rattle.wire.specs.Lists.{table}
use Rattle.rules.specs.Verdict.{fits}
use Rattle.window.specs.Window.{held_day, summed}
use Rattle.window.proofs.Window.held_sums.Given as goal

abbrev pub invariant-loop-i : goal.invariant-loop-i
invariant-loop-i l =
    let days = table l.i (held_day l.self) in
    record {
      fit : all (map (fits 1) days) ≡ true;
      summed : l.sums ≡ summed days;
    }
