-- A cell that was written is read again, and no other cell changes, since cells stand each in its own place: a place is a number in base
-- 31 and G, which has one firm, one group and one day.
use Prim.Native.Nat.{ℕ, ◌+◌, ◌-◌, ◌*◌, ◌/◌, ◌≤◌, ◌<◌}
use mathlib.Core.Bool.{Bool, true, false}
use mathlib.Core.List.{List}
use mathlib.Core.Path.{◌≡◌, refl, sym, ◌∙◌, ap}
use native.Mathlib.Nat.{mul-add-div_right, div-eq_of_lt, add-zero}
use native.Mathlib.Omega.{arith}
use lib.Dec.{ltb}
use lib.ListN.{length, get_or}
use borrow.Author.Tests.{ltb-true, ltb-false}
use Rattle.wire.proofs.Lists.{put_in, put_front, put_past}
use Rattle.book.specs.Book.{width, cell_at, numbers_of, with_cell}
use Rattle.cell.specs.declared.Cell.{Cell}
use Rattle.book.proofs.Places.{Placed}

-- cells of equal numbers are equal
pub cell_eq : {c e : Cell} → c.totals.raw ≡ e.totals.raw → c.totals.score ≡ e.totals.score → c.totals.lots ≡ e.totals.lots → c.edition ≡ e.edition
    → c ≡ e
cell_eq p q r s = λ i. record { totals = record { raw = p i; score = q i; lots = r i }; edition = s i }

module _ (B : List ℕ) (i : ℕ) (c : Cell) (room : i + width ≤ length B) where
  -- a cell that was written reads as what was written
  pub cell_same : cell_at (with_cell B i c) i ≡ c
  cell_same =
      let read = put_in i (numbers_of c) B room in
      let z : i ≡ i + 0 = omega arith in
      cell_eq (ap (λ (k : ℕ). get_or (with_cell B i c) k 0) z ∙ read 0 0 (omega arith)) (read 1 0 (omega arith)) (read 2 0 (omega arith)) (read 3 0 (omega arith))

  -- a number outside it is as it was
  other_number : (k : ℕ) → (i ≤ k → k < i + width → ⊥) → get_or (with_cell B i c) k 0 ≡ get_or B k 0
  other_number k h = go (ltb k i) refl
    where
      go : (b : Bool) → ltb k i ≡ b → get_or (with_cell B i c) k 0 ≡ get_or B k 0
      go true e = put_front i (numbers_of c) B room k 0 (ltb-true k i e)
      go false e =
          let l = ltb-false k i e in
          let far : k < i + width → ⊥ = h l in
          put_past i (numbers_of c) B room k 0 (omega arith)

-- so is every other cell
pub cell_other : (B : List ℕ) (m n : ℕ) (c : Cell) → n * width + width ≤ length B → (m ≡ n → ⊥)
    → cell_at (with_cell B (n * width) c) (m * width) ≡ cell_at B (m * width)
cell_other B m n c room h =
    let read : (k : ℕ) → k < width → get_or (with_cell B (n * width) c) (m * width + k) 0 ≡ get_or B (m * width + k) 0
    = λ k l. other_number B (n * width) c room (m * width + k) (λ a b. omega arith) in
    let z : m * width ≡ m * width + 0 = omega arith in
    cell_eq (rw z (read 0 (omega arith))) (read 1 (omega arith)) (read 2 (omega arith)) (read 3 (omega arith))

-- the high digit of a number in base m
quotient : (m a b : ℕ) → b < m → (a * m + b) / m ≡ a
quotient m a b h = mul-add-div_right (omega arith) a b ∙ rw (div-eq_of_lt h) (add-zero a)

-- the same two digits
record Digits (a b x y : ℕ) : Type 0 where
  high : a ≡ x
  low : b ≡ y

-- a number in base m has one pair of digits
digits : (m a b x y : ℕ) → b < m → y < m → a * m + b ≡ x * m + y → Digits a b x y
digits m a b x y hb hy e =
    let high : a ≡ x = sym (quotient m a b hb) ∙ ap (λ n. n / m) e ∙ quotient m x y hy in
    record { high = high; low = omega (arith, ap (λ n. n * m) high) }

-- the same cell
pub record Same (f g d f' g' d' : ℕ) : Type 0 where
  pub firm : f ≡ f'
  pub group : g ≡ g'
  pub day : d ≡ d'

-- cells with one number are the same
pub same_cell : (G f g d f' g' d' : ℕ) → Placed G g d → Placed G g' d' → (f * G + g) * 31 + d - 1 ≡ (f' * G + g') * 31 + d' - 1
    → Same f g d f' g' d'
same_cell G f g d f' g' d' p q e =
    let n : (f * G + g) * 31 + (d - 1) ≡ (f' * G + g') * 31 + (d' - 1) = omega (arith, p, q) in
    let low = digits 31 (f * G + g) (d - 1) (f' * G + g') (d' - 1) (omega (arith, p)) (omega (arith, q)) n in
    let high = digits G f g f' g' p.group q.group low.high in
    record { firm = high.high; group = high.low; day = omega (arith, p, q, low) }
