-- The digits that are written are the fewest that hold the number, and there are as many as the definition says.
use mathlib.Core.Path.{◌∙◌}
use native.Mathlib.Omega.{arith}
use Rattle.text.proofs.Decimal.{fewest_decimal}
use Rattle.text.proofs.Output.put_decimal.Goals as goal

pub returns : goal.returns
returns c =
    let d = c.decimal-k in
    let texts = d.ensures.digits ∙ fewest_decimal c.args.n d.result (omega (arith, c.ranges)) d.ensures.len in
    rw (← texts) c.put.ensures
