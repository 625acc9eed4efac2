-- The library finds the first place of the range at which the test holds, and that is where the definition's search stops.
use Rattle.std.proofs.Common.{◌≡◌, true, false, rules, tests}
use Rattle.std.proofs.lemmas.Iterator.{first_from_Range}
use Rattle.lookup.specs.Lookup.{firm_is, firm_listed, firm_found}
use Rattle.wire.proofs.Choose.{first_found}
use Rattle.lookup.proofs.Schedule.find_firm.Goals as goal

pub returns : goal.returns
unfolding firm_found firm_listed firm_is
returns c =
    let is = firm_is c.args.self.now.bytes.now c.args.self.now.layout.start c.args.code.now in
    let found = first_from_Range _ _ _ c.find.result (λ i. is i ≡ true) (λ i. is i ≡ false) c.find.ensures.ran in
    first_found _ is _ (found (λ i q k. search (rules, tests)) (λ i q k. search (rules, tests)))
