-- Before each turn the lines of the first violations are written, and the next one starts behind them.
use Rattle.std.specs.Slice.Iter.{chunks_exact_rest, chunks_exact_size}
use Rattle.std.proofs.Common.{◌≡◌}
use Rattle.statement.specs.Layout.{line_size}
use Rattle.report.proofs.Violations.{Showing}
use Rattle.report.proofs.firms.put_violations.Given as goal

abbrev pub invariant-loop-line : goal.invariant-loop-line
invariant-loop-line l =
    Showing l.code l.violations l.initial.out l.out (chunks_exact_rest l.line-iterator)
    × (chunks_exact_size l.line-iterator ≡ line_size)
