-- The statement goes into an output that is never too short for it, and its answer says whether its lines are written or a number of refusal.
use Rattle.std.proofs.Common.{ap, refl, ◌≡◌, ◌≤◌, length, length-take-le, arith}
use Rattle.refusals.specs.Outcome.{outcome}
use Rattle.report.specs.Report.{zeros, code_of}
use Rattle.report.proofs.Fronts.{statement_front}
use Rattle.report.proofs.FirmLines.{lines_refused, lines_written, lines_within}
use Rattle.report.proofs.firms.put_firm.Goals as goal

pub put_statement-requires : goal.put_statement-requires
put_statement-requires c =
    let bounds = lines_within _ _ c.statement.ensures (ap outcome c.in-Ok.is) in
    let inside : c.in-Ok.bytes ≤ length c.statement.new.out = omega (arith, bounds.1, c.statement.auto.out) in
    rw (length-take-le c.in-Ok.bytes c.statement.new.out inside) bounds.0

pub returns-in-Err : goal.returns-in-Err
unfolding zeros
returns-in-Err c =
    let s = c.args.schedule.now in
    let code : c.firm.result.code ≡ code_of s.bytes.now s.layout c.args.firm = ap (λ f. f.code) c.firm.ensures in
    rw (← lines_refused _ _ c.statement.ensures _ _ code refl (ap outcome c.in-Err.is)) (rw c.number.ensures at c.put_line.ensures)

pub returns-in-Ok : goal.returns-in-Ok
unfolding zeros
returns-in-Ok c =
    let s = c.args.schedule.now in
    let code : c.firm.result.code ≡ code_of s.bytes.now s.layout c.args.firm = ap (λ f. f.code) c.firm.ensures in
    let bounds = lines_within _ _ c.statement.ensures (ap outcome c.in-Ok.is) in
    let inside : c.in-Ok.bytes ≤ length c.statement.new.out = omega (arith, bounds.1, c.statement.auto.out) in
    rw (← lines_written _ _ c.statement.ensures _ _ code refl (ap outcome c.in-Ok.is))
    (rw (statement_front c.firm.result.code c.statement.new.out c.in-Ok.bytes bounds.0 inside) at c.put_statement.ensures)
