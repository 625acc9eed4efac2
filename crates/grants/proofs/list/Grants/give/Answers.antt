-- Each place's mark is written at its place.
use Rattle.std.proofs.Common.{rules}
use Rattle.wire.proofs.Calls.{made}
use Rattle.grants.proofs.list.Grants.give.Goals as goal

pub returns : goal.returns
returns c = made _ _ _ _ _ (λ i y q l k. search rules) c.from_fn.ensures.items
