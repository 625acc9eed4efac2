-- The schedule's end parts the input into the bytes that are checked and the run of records that is posted; the check says which of the two texts is
-- written.
use mathlib.Core.Path.{sym, ap, ◌∙◌}
use borrow.Author.Tests.{le-ltb}
use Rattle.wire.specs.Cut.{cut}
use Rattle.wire.proofs.Lists.{part_lent}
use Rattle.refusals.specs.Outcome.{outcome}
use Rattle.report.specs.Report.{report}
use Rattle.input.proofs.Cuts.{schedule_first, activity_rest}
use Rattle.report.proofs.put_report.Goals as goal

pub returns-in-Ok : goal.returns-in-Ok
unfolding report
returns-in-Ok c =
    let I = c.args.input.now in
    let e = c.schedule_end.ensures in
    let front = c.split_at.ensures.front ∙ schedule_first I e in
    let back = ap cut c.split_at.ensures.back ∙ (rw part_lent at (activity_rest I e)) in
    let good = rw front at (sym c.check_book.ensures ∙ ap outcome c.in-Ok.is) in
    rw (le-ltb _ _ c.if-input-gt-INPUT.false, good) (rw (front, back) at c.put_month.ensures)
