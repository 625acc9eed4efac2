-- Behind the place stand the bytes of the slice's part from there on.
use Rattle.std.proofs.Common.{◌+◌, get_or, rules}
use Rattle.std.proofs.lemmas.List.{get_or-drop}
use Rattle.wire.proofs.Calls.{made}
use Rattle.wire.proofs.bytes_at.Goals as goal

pub returns : goal.returns
returns g c =
    made _ _ (λ i. get_or c.args.s.now (c.args.at + i) 0) _ _
    (λ i y q l k. rw (← get_or-drop c.args.at c.args.s.now i 0, ← c.tail-rest.ensures) (search rules))
    c.from_fn.ensures.items
