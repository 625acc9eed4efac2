-- Each call answers whether its grant names the place.
use Rattle.std.proofs.Common.{ℕ, Bool, rules, refl}
use Rattle.wire.proofs.Calls.{some_found}
use Rattle.grants.specs.Grants.{grant_at, names}
use Rattle.grants.proofs.list.Grants.is_named.Goals as goal

pub returns : goal.returns
returns c =
    let g = c.args.self.now in
    let p : ℕ → Bool = λ k. names g.schedule.bytes.now g.schedule.layout c.args.firm.now c.args.i (grant_at g.bytes.now k) in
    rw c.count.ensures at (some_found _ _ _ _ _ p refl c.any.ensures.ran (λ x b q k. search rules))
