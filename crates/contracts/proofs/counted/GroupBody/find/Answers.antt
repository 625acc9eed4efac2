-- The library finds the first place of the range at which the test holds, and that is where the definition's search stops.
use Rattle.std.proofs.Common.{◌≡◌, true, false, rules, tests}
use Rattle.std.proofs.lemmas.Iterator.{first_from_Range}
use Rattle.wire.proofs.Choose.{first_found}
use Rattle.contracts.specs.Counted.{contract_is, contract_listed, contract_found}
use Rattle.contracts.proofs.counted.GroupBody.find.Goals as goal

pub returns : goal.returns
unfolding contract_found contract_listed contract_is
returns c =
    let is = contract_is c.args.self.now.body.now c.args.m in
    let found = first_from_Range _ _ _ c.find.result (λ i. is i ≡ true) (λ i. is i ≡ false) c.find.ensures.ran in
    rw (← c.listed_in.ensures) (first_found _ is _ (found (λ i q k. search (rules, tests)) (λ i q k. search (rules, tests))))
