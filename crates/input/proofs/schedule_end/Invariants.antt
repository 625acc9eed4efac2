-- The records so far, none of which begins the activity, and the schedule of those that are left make up the schedule.
use Rattle.std.proofs.Common.{◌≡◌, ◌+◌, length}
use Rattle.wire.specs.Cut.{records_in}
use Rattle.input.specs.Input.{bytes_before, schedule_of}
use Rattle.input.proofs.schedule_end.Given as goal

abbrev pub invariant-loop-record : goal.invariant-loop-record
invariant-loop-record l = l.end + length (bytes_before (records_in l.record-iterator)) ≡ length (schedule_of l.input)
