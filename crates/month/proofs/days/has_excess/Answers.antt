-- Each call answers whether its place has a number above the limit.
use Rattle.std.proofs.Common.{rules, refl}
use Rattle.month.specs.Month.{any_excess}
use Rattle.wire.proofs.Calls.{some_found}
use Rattle.month.proofs.days.has_excess.Goals as goal

pub returns : goal.returns
unfolding any_excess
returns c = some_found _ _ _ _ _ _ refl c.any.ensures.ran (λ x b q k. search rules)
