-- Refusals 1 to 8, 37, 38 are those of the check; an unlisted group is 15 and a day that the month has not 16; then a refused month refuses, and the reason
-- for a place of a held month is that of the month.
use Rattle.std.proofs.Common.{◌≡◌, ◌+◌, ◌-◌, ◌*◌, Err, refl, sym, ap, ◌∙◌}
use Rattle.std.proofs.lemmas.Result.{err_from_is_err_and}
use Rattle.refusals.specs.declared.Cause.TheVariants as cause
use Rattle.lookup.specs.Lookup.{group_listed}
use Rattle.lookup.proofs.Laws.{group-found, group_unlisted}
use Rattle.reason.specs.Reason.{reason_at, place_of}
use Rattle.reason.proofs.Answers.{is-refused, is_15, is_16, is-month, is-reason, inside}
use Rattle.reason.proofs.Held.{held-reason, held-most}
use Rattle.reason.proofs.reason.Goals as goal

pub returns-in_err-layout : goal.returns-in_err-layout
returns-in_err-layout c =
    let p = err_from_is_err_and c.from_residual.result c.from_residual.ensures.1 in
    rw (p.1, p.2) (sym (is-refused _ _ _ _ _ _ (sym c.in_err-layout.ensures)))

pub returns-in_err-group : goal.returns-in_err-group
returns-in_err-group c =
    let none = sym c.in_err-group.ensures.ok_part ∙ c.find_group.ensures in
    let p = err_from_is_err_and c.from_residual-in_err-group.result c.from_residual-in_err-group.ensures.1 in
    let is : Err c.in_err-group.field-0.0 ≡ Err cause.UnlistedGroup = rw c.in_err-group.ensures.ok_part at c.in_err-group.ensures.value in
    let one : c.in_err-group.field-0.0 ≡ cause.UnlistedGroup = cc in
    rw (p.1, p.2, one) (sym (is_15 _ _ _ _ _ _ (sym c.in_ok-layout.ensures) (group_unlisted _ _ _ none)))

pub returns-then-not-has_day : goal.returns-then-not-has_day
unfolding group_listed
returns-then-not-has_day c =
    let f = group-found _ _ _ (sym c.in_ok-group.ensures.ok_part ∙ c.find_group.ensures) in
    rw c.from.ensures (sym (is_16 _ _ _ _ _ _ (sym c.in_ok-layout.ensures) f.listed (sym c.has_day.ensures ∙ c.if-not-has_day.true)))

pub returns-in_err-month : goal.returns-in_err-month
unfolding group_listed
returns-in_err-month c =
    let f = group-found _ _ _ (sym c.in_ok-group.ensures.ok_part ∙ c.find_group.ensures) in
    let p = err_from_is_err_and c.from_residual-in_err-month.result c.from_residual-in_err-month.ensures.1 in
    rw (p.1, p.2)
    (sym (is-month _ _ _ _ _ _ (sym c.in_ok-layout.ensures) f.listed (sym c.has_day.ensures ∙ c.if-not-has_day.false) (sym c.in_err-month.ensures.answer)))

pub explain-requires-clause-i_lt_places : goal.explain-requires-clause-i_lt_places
explain-requires-clause-i_lt_places c =
    let f = group-found _ _ _ (sym c.in_ok-group.ensures.ok_part ∙ c.find_group.ensures) in
    rw (c.from-2.ensures, c.from-3.ensures) (inside _ _ (sym c.in_ok-layout.ensures) _ _ f.inside (sym c.has_day.ensures ∙ c.if-not-has_day.false))

pub explain-requires-clause-mark_value : goal.explain-requires-clause-mark_value
explain-requires-clause-mark_value c =
    let f = group-found _ _ _ (sym c.in_ok-group.ensures.ok_part ∙ c.find_group.ensures) in
    rw (c.from-2.ensures, c.from-3.ensures)
    (held-most _ _ _ _ c.in_ok-month.ensures _ (inside _ _ (sym c.in_ok-layout.ensures) _ _ f.inside (sym c.has_day.ensures ∙ c.if-not-has_day.false)))

pub returns : goal.returns
unfolding group_listed
returns c =
    let a = c.args in
    let f = group-found _ _ _ (sym c.in_ok-group.ensures.ok_part ∙ c.find_group.ensures) in
    let known = sym c.has_day.ensures ∙ c.if-not-has_day.false in
    let told = c.in_ok-month.ensures in
    let at : (c.from-2.result - 1) * 32 + c.from-3.result ≡ place_of a.schedule.now a.day a.group.now c.in_ok-layout.layout
    = rw (c.from-2.ensures, c.from-3.ensures, ← f.first) refl in
    sym (is-reason _ _ _ _ _ _ (sym c.in_ok-layout.ensures) f.listed known (sym told.answer)
    (c.explain.ensures ∙ held-reason _ _ _ _ told _ (rw (c.from-2.ensures, c.from-3.ensures) (inside _ _ (sym c.in_ok-layout.ensures) _ _ f.inside known))
    ∙ ap (reason_at a.schedule.now a.book.now a.firm.now a.grants.now c.in_ok-month.month.layout) at))
