-- The arrays are filled from the month's definitions, and the marks given to what they hold are the month's own.
use mathlib.Core.Path.{refl, ap, ◌∙◌}
use Rattle.wire.specs.Lists.{table}
use Rattle.rules.specs.Marks.{places, mark}
use Rattle.rules.specs.declared.Rules.{Rules}
use Rattle.month.specs.Parts.{held}
use Rattle.month.specs.Firm.{totals_of}
use Rattle.month.proofs.Waivers.{codes_table, held_grouped, held_marks}
use Rattle.month.proofs.judged_month.Goals as goal

pub give_marks-marks-requires : goal.give_marks-marks-requires
give_marks-marks-requires c =
    let s = c.args.firm.now in
    let codes = c.codes_of.ensures ∙ codes_table _ _ c.verdicts-verdicts.ensures in
    held_grouped s.schedule.bytes.now s.schedule.layout (totals_of s) _ _ codes c.groups-groups.ensures s.sound.checked

pub returns : goal.returns
returns c =
    let s = c.args.firm.now in
    let v = c.verdicts-verdicts in
    let g = c.groups-groups in
    let codes = c.codes_of.ensures ∙ codes_table _ _ v.ensures in
    record {
      layout = refl;
      firm = refl;
      groups = g.ensures;
      verdicts = v.ensures;
      marks = c.give_marks-marks.ensures
          ∙ ap (λ (p : Rules). table places (mark p (held c.codes_of.result g.result))) s.in_force
          ∙ held_marks s.schedule.bytes.now s.schedule.layout (totals_of s) _ _ codes g.ensures;
    }
