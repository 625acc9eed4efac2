-- Each place's verdict is written at its place.
use Rattle.std.proofs.Common.{rules}
use Rattle.wire.proofs.Calls.{made}
use Rattle.month.proofs.firm.FirmBook.verdicts.Goals as goal

pub returns : goal.returns
returns c = made _ _ _ _ _ (λ i y q l k. search rules) c.from_fn.ensures.items
