-- The library fills the front with copies of the value, and they are the table.
use Rattle.std.proofs.Common.{arith}
use Rattle.wire.proofs.Lists.{table_filled}
use Rattle.wire.proofs.fill.Goals as goal

pub returns : goal.returns
returns c =
    rw (← c.min-most.ensures)
    (table_filled c.min-most.result c.args.value c.args.numbers.now c.fill.new.self (omega arith) (c.fill.ensures.after (λ y e. e)))
