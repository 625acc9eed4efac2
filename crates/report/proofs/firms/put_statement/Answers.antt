-- The violations' lines, then the two totals', each from its own part of the statement.
use Rattle.std.proofs.Common.{ap, ◌∙◌, take, drop}
use Rattle.text.proofs.Writing.{◌then◌}
use Rattle.statement.specs.Layout.{totals_size}
use Rattle.report.proofs.Fronts.{statement_alone}
use Rattle.report.proofs.firms.put_statement.Goals as goal

pub returns : goal.returns
returns c =
    let totals = c.split_at.ensures.back in
    let first = c.split_at-2.ensures.front ∙ ap (take totals_size) totals in
    let second = c.split_at-2.ensures.back ∙ ap (drop totals_size) totals in
    rw (statement_alone c.args.code.now _ _ _ _ c.requires c.split_at.ensures.front first second)
    (c.put_violations.ensures then c.put_totals.ensures then c.put_totals-2.ensures)
