-- Before each turn the lines of the firms so far are written, and the turn writes those of the next.
use Rattle.wire.specs.Lists.{joined}
use Rattle.text.specs.Text.{Wrote}
use Rattle.report.specs.Report.{statement_of}
use Rattle.report.proofs.firms.put_firms.Given as goal

abbrev pub invariant-loop-firm : goal.invariant-loop-firm
invariant-loop-firm l = Wrote l.initial.out (joined l.firm (statement_of l.schedule.bytes.now l.schedule.layout l.book)) l.out
