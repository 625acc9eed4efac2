-- A read puts its bytes right behind those read before and takes them off the reader, so the array's front is what the reader has lost.
-- A loop that ends before the array is full ended at a read of no bytes, which is the reader's end.
use Rattle.std.proofs.Common.{None, Some, ◌≡◌, ℕ, ◌+◌, ◌≤◌, List, ◌++◌, length, arith, take, sym, append_assoc, length-take-le}
use Rattle.std.proofs.Math.Seq.{take-append-add, take-append-le}
use Rattle.std.specs.Io.KnownBytes.{Consumes}
use Rattle.std.specs.declared.option.Option.{Option}
use borrow.Rule.Slice.PartMut.{put_mid, post_of}
use Rattle.reading.proofs.read_full.Goals as goal

consumes_both : (a b c : Option (List ℕ)) (xs ys : List ℕ) → Consumes a b xs → Consumes b c ys → Consumes a c (xs ++ ys)
consumes_both None b c xs ys p q = tt
consumes_both (Some s) None c xs ys p q = absurd p
consumes_both (Some s) (Some t) None xs ys p q = absurd q
consumes_both (Some s) (Some t) (Some u) xs ys p q = rw (p, q) (sym (append_assoc xs ys u))

front : (d k n : ℕ) (xs ys : List ℕ) → d ≤ length xs → n ≤ length ys → take (d + n) (put_mid d k xs ys) ≡ take d xs ++ take n ys
front d k n xs ys p q =
    let rest = post_of d k xs in
    let whole = take-append-add (take d xs) (ys ++ rest) n in
    rw (← take-append-le n ys rest q) (rw (length-take-le d xs p) at whole)

pub loop-done-preserved : goal.loop-done-preserved
loop-done-preserved g c =
    let l = c.loop-done in
    let fits = l.invariant.0 in
    let read = c.in_ok-n.ensures in
    (omega arith, rw (front l.done _ c.in_ok-n.n l.array c.read.new.buf fits read.bound.0) (consumes_both _ _ _ _ _ l.invariant.1 read.bytes.0))
