-- The marks of the places passed are over the front of the codes, and each counter holds how many were left so far in its exchange grouping.
use mathlib.Core.Path.{◌≡◌}
use native.Mathlib.Omega.{arith}
use lib.ListN.{length, get_or}
use Rattle.wire.proofs.Lists.{table_read, table_write}
use Rattle.wire.proofs.Sums.{sum_more}
use Rattle.rules.specs.Marks.{places, Judged, mark}
use Rattle.month.specs.Parts.{held}
use Rattle.month.proofs.Waivers.{mark_by}
use Rattle.month.proofs.marks.give_marks.Goals as goal

pub loop-i-preserved : goal.loop-i-preserved
loop-i-preserved c =
    let a = c.args in
    let v = c.loop-i.invariant in
    let i = c.loop-i.i in
    let j : Judged = held a.marks a.groups.now in
    let read : get_or c.loop-i.mark-items i 0 ≡ get_or a.marks i 0 = rw v.marked (table_read (mark a.p j) i a.marks 0) in
    let long : length a.marks ≡ places = omega arith in
    let given : c.mark_of.result ≡ mark a.p j i
    = rw (c.mark_of.ensures, read, c.count_in.ensures, v.first, v.second) (mark_by a.p j i (c.requires i c.loop-i-test.true)) in
    record {
      marked = rw v.marked (table_write (mark a.p j) i c.mark_of.result a.marks (omega (arith, long)) given);
      first = rw (c.with_place-left.ensures.first, v.first, read, sum_more);
      second = rw (c.with_place-left.ensures.second, v.second, read, sum_more);
    }
