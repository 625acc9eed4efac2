-- Each turn posts the record that comes next, and writes its line if it is refused.
use Rattle.wire.specs.Cut.{cut, records_in}
use Rattle.report.proofs.Posting.{Posting}
use Rattle.report.proofs.posts.put_posts.Given as goal

abbrev pub invariant-loop-record : goal.invariant-loop-record
invariant-loop-record l = Posting l.schedule l.initial.book (cut l.run) l.initial.out l.out l.book (records_in l.record-iterator)
