-- A number's fewest decimal digits are as many as the definition says.
use Prim.Native.Nat.{ℕ, ◌-◌, ◌^◌, ◌≤◌, ◌<◌}
use mathlib.Core.Bool.{Bool, true, false}
use mathlib.Core.Path.{◌≡◌, refl, ap}
use native.Mathlib.Nat.{pow-le-pow_right}
use native.Mathlib.Omega.{arith}
use lib.Dec.{ltb}
use borrow.Author.Tests.{ltb-true, ltb-false}
use Rattle.io.specs.Digits.{last_digits, IsDigitCount}
use Rattle.wire.proofs.Choose.{Sought, sought_in}
use Rattle.text.specs.Text.{digit_count, decimal}

-- a place before the first that holds the number holds it not, and one after it is not the fewest
fewest_is : (n k q : ℕ) → n < 10 ^ 20 → IsDigitCount 10 1 n k → Sought 19 1 (λ k. ltb n (10 ^ k)) q → k ≡ q
fewest_is n k q h f s = go (ltb k q) (ltb q k) refl refl
  where
    at_most : (b : Bool) → ltb 20 k ≡ b → k ≤ 20
    at_most true e =
        let l = ltb-true 20 k e in
        let more : 10 ^ 20 ≤ 10 ^ (k - 1) = pow-le-pow_right {n = 10} (omega arith) {i = 20} {j = k - 1} (omega arith) in
        absurd (omega (arith, h, more, f.2 (omega arith)))
    at_most false e = ltb-false 20 k e

    go : (a b : Bool) → ltb k q ≡ a → ltb q k ≡ b → k ≡ q
    go true b e g = absurd (omega (arith, f.1, ltb-false n (10 ^ k) (s.missed k f.0 (ltb-true k q e))))
    go false true e g =
        let l = ltb-true q k g in
        let most = at_most (ltb 20 k) refl in
        let more : 10 ^ q ≤ 10 ^ (k - 1) = pow-le-pow_right {n = 10} (omega arith) (omega arith) in
        absurd (omega (arith, more, f.2 (omega arith), ltb-true n (10 ^ q) (s.found (omega arith))))
    go false false e g = omega (arith, ltb-false k q e, ltb-false q k g)

pub fewest_decimal : (n k : ℕ) → n < 10 ^ 20 → IsDigitCount 10 1 n k → last_digits 10 k n ≡ decimal n
unfolding decimal
fewest_decimal n k h f = ap (λ (k : ℕ). last_digits 10 k n) (fewest_is n k (digit_count n) h f (sought_in 19 1 (λ k. ltb n (10 ^ k))))
