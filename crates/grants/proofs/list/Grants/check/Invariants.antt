-- No grant before the next one refuses, so that the first that does decides.
use Rattle.std.proofs.Common.{◌≡◌}
use Rattle.wire.specs.Choose.{choose}
use Rattle.wire.specs.Lists.{joined}
use Rattle.grants.specs.Grants.{grant_at, grant_causes}
use Rattle.grants.proofs.list.Grants.check.Given as goal

abbrev pub invariant-loop-k : goal.invariant-loop-k
invariant-loop-k l = choose (joined l.k (λ k. grant_causes l.self.schedule.bytes.now l.self.schedule.layout (grant_at l.self.bytes.now k))) 0 ≡ 0
