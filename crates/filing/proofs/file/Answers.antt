-- Where the first table refuses the record, it decides, and then 31. Where neither does, the record has the length of its kind, as the rest asks,
-- and the last table decides.
use mathlib.Core.List.{◌++◌}
use mathlib.Core.Path.{refl, sym, ◌∙◌}
use borrow.Author.Tests.{ne_eqb}
use Rattle.wire.proofs.Choose.{choose_first, choose_second, passed}
use Rattle.std.proofs.lemmas.Result.{err_from_is_err_and}
use Rattle.refusals.proofs.Causes.{not_0}
use Rattle.filing.specs.Causes.{form_causes, field_causes, list_causes}
use Rattle.filing.specs.Filing.{filing_by}
use Rattle.filing.proofs.file.Goals as goal

pub returns-in_err-check_fields : goal.returns-in_err-check_fields
unfolding filing_by
returns-in_err-check_fields c =
    let R = c.args.«record».now in
    let lists = list_causes c.args.schedule.now.bytes.now c.args.schedule.now.layout R in
    let formed = passed (form_causes R) refl (sym c.in_ok-check_form.ensures) in
    let first = choose_first (field_causes R) lists (sym c.in_err-check_fields.ensures) (not_0 _) in
    let p = err_from_is_err_and c.from_residual-in_err-check_fields.result c.from_residual-in_err-check_fields.ensures.1 in
    rw (p.1, p.2) (rw (choose_second (form_causes R) (field_causes R ++ lists) formed ∙ first, ne_eqb _ 0 (not_0 c.in_err-check_fields.field-0.0)))

pub returns : goal.returns
unfolding filing_by
returns c =
    let R = c.args.«record».now in
    let lists = list_causes c.args.schedule.now.bytes.now c.args.schedule.now.layout R in
    let formed = passed (form_causes R) refl (sym c.in_ok-check_form.ensures) in
    let sound = passed (field_causes R) refl (sym c.in_ok-check_fields.ensures) in
    rw (choose_second (form_causes R) (field_causes R ++ lists) formed, choose_second (field_causes R) lists sound) c.file_listed.ensures
