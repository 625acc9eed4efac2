-- A book that is not refused has room for the cells, so that all of them are filled with zeros.
use Rattle.std.proofs.Common.{◌≡◌, ℕ, min, List, sym, arith}
use Rattle.refusals.specs.Outcome.{good}
use Rattle.lookup.specs.declared.Layout.{Layout}
use Rattle.book.specs.Book.{size, check_book}
use Rattle.book.proofs.Checked.{sized}
use Rattle.book.proofs.opening.open.Goals as goal

-- a book that is taken has room for the cells
fits-in : (S : List ℕ) (n : ℕ) {l : Layout} → check_book S n ≡ good l → min (size l) n ≡ size l
fits-in S n e = omega (arith, (sized _ _ e).room)

pub returns : goal.returns
returns c =
    let e = sym c.in_ok-l.ensures in
    record { answer = rw e; book = rw e (rw (c.book_size.ensures, fits-in _ _ e) at c.fill.ensures) }
