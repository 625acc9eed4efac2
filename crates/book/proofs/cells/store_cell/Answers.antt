-- Stores in a row put the list of a cell's numbers in place.
use Prim.Native.Nat.{suc, ◌+◌}
use mathlib.Core.Path.{◌≡◌}
use native.Mathlib.Omega.{arith}
use lib.Seq.{sets-eq}
use Rattle.book.specs.Book.{numbers_of}
use Rattle.book.proofs.cells.store_cell.Goals as goal

pub returns : goal.returns
returns c =
    let a = c.args in
    let p : a.at + 1 ≡ suc a.at = omega arith in
    let q : a.at + 2 ≡ suc (suc a.at) = omega arith in
    let r : a.at + 3 ≡ suc (suc (suc a.at)) = omega arith in
    rw (p, q, r) (sets-eq (numbers_of a.cell) a.book.now a.at c.requires)
