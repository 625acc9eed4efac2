-- A listed firm's cells stand inside the book.
use Prim.Native.Nat.{ℕ, ◌+◌, ◌*◌, ◌≤◌, ◌<◌}
use native.Mathlib.Nat.{mul-le-mul_right}
use native.Mathlib.Omega.{arith}
use Rattle.lookup.specs.declared.Layout.{Layout}
use Rattle.book.specs.Book.{width, size, index}

-- a place in the book: a listed group, and a day of 1 to 31
pub record Placed (G g d : ℕ) : Type 0 where
  pub group : g < G
  pub first : 1 ≤ d
  pub last : d ≤ 31

-- a cell of a listed firm lies inside the book
pub inside : (l : Layout) (f g d : ℕ) → f < l.firms → Placed l.groups g d → index l.groups f g d + width ≤ size l
inside l f g d h p =
    let row : (f + 1) * l.groups ≤ l.firms * l.groups = mul-le-mul_right l.groups (omega arith) in
    omega (arith, row, p)
