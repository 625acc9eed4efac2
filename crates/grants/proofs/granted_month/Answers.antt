-- A refused month refuses it, and then the grants; else its marks are given with the grants.
use Rattle.std.proofs.Common.{sym}
use Rattle.std.proofs.lemmas.Result.{err_from_is_err_and}
use Rattle.refusals.proofs.Causes.{not_0}
use Rattle.grants.proofs.Answers.{is-refused, is_34_35, held-granted}
use Rattle.grants.proofs.granted_month.Goals as goal

pub returns-in_err-month : goal.returns-in_err-month
returns-in_err-month c =
    let p = err_from_is_err_and c.from_residual.result c.from_residual.ensures.1 in
    let told = c.in_err-month.ensures in
    rw (p.1, p.2) (record { answer = sym (is-refused _ _ _ _ (sym told.answer)); held = tt })

pub returns-in_err-check : goal.returns-in_err-check
returns-in_err-check c =
    let p = err_from_is_err_and c.from_residual-in_err-check.result c.from_residual-in_err-check.ensures.1 in
    let told = c.in_ok-month.ensures in
    rw (p.1, p.2) (record { answer = sym (is_34_35 _ _ _ _ (sym told.answer) (sym c.in_err-check.ensures) (not_0 _)); held = tt })

pub returns : goal.returns
returns c = held-granted c.in_ok-month.ensures (sym c.in_ok-check.ensures) c.give-month.result c.give-month.ensures
