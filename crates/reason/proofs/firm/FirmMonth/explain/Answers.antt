-- Each mark has its case, and no mark is above 5, so that what is left is billed.
use Rattle.std.proofs.Common.{◌≡◌, sym, ap, ◌∙◌, arith}
use Rattle.rules.specs.Marks.{places}
use Rattle.reason.specs.Parts.{automatic_in, two_in, marks_in}
use Rattle.reason.proofs.ByMark.{no-violation, severe-reason, billed-reason, monthly-reason, automatic-reason, granted-reason, first_inside, second_inside}
use Rattle.reason.proofs.firm.FirmMonth.explain.Goals as goal

pub waiver-requires : goal.waiver-requires
waiver-requires c = rw c.last_two-waivers.ensures (first_inside (automatic_in c.args.self.now c.grouping.result) places)

pub waiver-requires-in_default : goal.waiver-requires-in_default
waiver-requires-in_default c = rw c.last_two-waivers.ensures (second_inside (automatic_in c.args.self.now c.grouping.result) places)

pub returns-in-0 : goal.returns-in-0
returns-in-0 c = sym (no-violation _ _ _ _ _ _ c.in-0.is)

pub returns-in-1 : goal.returns-in-1
returns-in-1 c = rw c.sides.ensures (sym (severe-reason _ _ _ _ _ _ c.in-1.is))

pub returns-in-3 : goal.returns-in-3
returns-in-3 c = sym (monthly-reason _ _ _ _ _ _ c.in-3.is)

pub returns-in-4 : goal.returns-in-4
returns-in-4 c = rw c.number.ensures (sym (automatic-reason _ _ _ _ _ _ c.in-4.is))

pub returns-in-5 : goal.returns-in-5
returns-in-5 c = sym (granted-reason _ _ _ _ _ _ c.in-5.is)

pub returns-in_default : goal.returns-in_default
returns-in_default c =
    let two : marks_in c.args.self.now c.args.i ≡ 2 = omega (arith, c.in_default, c.requires.mark_value) in
    sym (billed-reason _ _ _ _ _ _ two (c.last_two-waivers.ensures ∙ ap (two_in c.args.self.now) c.grouping.ensures) c.waiver.ensures c.waiver-in_default.ensures)
