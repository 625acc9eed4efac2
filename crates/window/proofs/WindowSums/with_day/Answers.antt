-- The sums are of at most 20 days and the day is within the limit, so nothing overflows.
use native.Mathlib.Omega.{arith}
use Rattle.rules.proofs.Codes.{fitting}
use Rattle.window.proofs.WindowSums.with_day.Goals as goal

pub overflow_add-result : goal.overflow_add-result
overflow_add-result c = omega (arith, fitting 1 c.args.t c.requires.day)

pub overflow_add-result-2 : goal.overflow_add-result-2
overflow_add-result-2 c = omega (arith, fitting 1 c.args.t c.requires.day)

pub overflow_add-result-3 : goal.overflow_add-result-3
overflow_add-result-3 c = omega (arith, fitting 1 c.args.t c.requires.day)
