-- Each group's month is made at its place.
use Rattle.std.proofs.Common.{rules}
use Rattle.wire.proofs.Calls.{made}
use Rattle.month.proofs.firm.FirmBook.groups.Goals as goal

pub returns : goal.returns
returns c = made _ _ _ _ _ (λ i y q l k. search rules) c.from_fn.ensures.items
