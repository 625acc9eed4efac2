-- Refusals 1 to 8, 37, 38 are those of the check, and an unlisted firm is 21. A listed firm has one place, which fits a byte; then 22 is asked, and the rest is
-- its month.
use Rattle.std.proofs.Common.{◌≡◌, Err, sym, ◌∙◌}
use Rattle.std.proofs.lemmas.Result.{err_from_is_err_and}
use Rattle.refusals.specs.declared.Cause.TheVariants as cause
use Rattle.lookup.specs.Lookup.{firm_listed}
use Rattle.lookup.proofs.Laws.{firm-found, firm_unlisted}
use Rattle.book.proofs.Checked.{sized}
use Rattle.month.specs.Parts.{ListedAt}
use Rattle.month.proofs.Answers.{is_21, is_22, held-month}
use Rattle.month.proofs.firm_month.Goals as goal

pub returns-in_err-firm : goal.returns-in_err-firm
returns-in_err-firm c =
    let none = sym c.in_err-firm.ensures.ok_part ∙ c.find_firm.ensures in
    let p = err_from_is_err_and c.from_residual-in_err-firm.result c.from_residual-in_err-firm.ensures.1 in
    let is : Err c.in_err-firm.field-0.0 ≡ Err cause.NoSuchFirm = rw c.in_err-firm.ensures.ok_part at c.in_err-firm.ensures.value in
    let one : c.in_err-firm.field-0.0 ≡ cause.NoSuchFirm = cc in
    rw (p.1, p.2, one) (record { answer = sym (is_21 _ _ _ (sym c.in_ok-layout.ensures) (firm_unlisted _ _ _ none)); held = tt })

pub returns-then-has_excess : goal.returns-then-has_excess
unfolding firm_listed
returns-then-has_excess c =
    let f = firm-found _ _ _ (sym c.in_ok-firm.ensures.ok_part ∙ c.find_firm.ensures) in
    let at : ListedAt c.args.schedule.now c.in_ok-layout.layout c.args.book.now c.args.code.now c.in_ok-firm.firm
    = record { checked = sym c.in_ok-layout.ensures; listed = f.listed; place = sym f.first } in
    record { answer = rw c.from.ensures (sym (is_22 _ _ _ _ _ at (sym c.has_excess.ensures ∙ c.if-has_excess.true))); held = tt }

pub returns : goal.returns
unfolding firm_listed
returns c =
    let f = firm-found _ _ _ (sym c.in_ok-firm.ensures.ok_part ∙ c.find_firm.ensures) in
    let at : ListedAt c.args.schedule.now c.in_ok-layout.layout c.args.book.now c.args.code.now c.in_ok-firm.firm
    = record { checked = sym c.in_ok-layout.ensures; listed = f.listed; place = sym f.first } in
    held-month at (sym c.has_excess.ensures ∙ c.if-has_excess.false) c.judged_month.ensures

pub invariant_of-judged_month : goal.invariant_of-judged_month
invariant_of-judged_month c =
    record {
      in_force = c.rules_of-rules.ensures;
      stand = c.group_starts-starts.ensures;
      sound = record { checked = (sized _ _ (sym c.in_ok-layout.ensures)).schedule; within = sym c.has_excess.ensures ∙ c.if-has_excess.false };
    }
