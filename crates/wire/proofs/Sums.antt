-- Laws of sums and counts.
use Prim.Native.Nat.{ℕ, zero, suc, ◌+◌, ◌*◌, ◌%◌, ◌≤◌, ◌<◌, min, zero-le}
use mathlib.Core.Bool.{Bool, true, false, cond}
use mathlib.Core.Logic.{⊎_elim}
use mathlib.Core.Path.{◌≡◌, refl, ap₂}
use native.Mathlib.Nat.{le_refl, eq-or-lt_of_le, add-le-add, add-zero, add-suc, mul-add, suc-mul}
use native.Mathlib.Numerals.{add-one}
use native.Mathlib.Omega.{arith}
use Rattle.wire.specs.Sums.{bit, sum, count}

pub sum-none : (f : ℕ → ℕ) → sum 0 f ≡ 0
unfolding sum
sum-none f = refl

pub sum_more : (n : ℕ) (f : ℕ → ℕ) → sum (n + 1) f ≡ sum n f + f n
unfolding sum
sum_more n f = rw add-one

pub sum_le : (n : ℕ) (f g : ℕ → ℕ) → ((i : ℕ) → i < n → f i ≤ g i) → sum n f ≤ sum n g
unfolding sum
sum_le zero f g h = omega arith
sum_le (suc n) f g h = add-le-add (sum_le n f g (λ i l. h i (omega arith))) (h n (le_refl _))

-- what is the same below n has the same sum
pub sum_same : (n : ℕ) (f g : ℕ → ℕ) → ((i : ℕ) → i < n → f i ≡ g i) → sum n f ≡ sum n g
unfolding sum
sum_same zero f g h = refl
sum_same (suc n) f g h = ap₂ ◌+◌ (sum_same n f g (λ i l. h i (omega arith))) (h n (omega arith))

pub sum_add : (n : ℕ) (f g : ℕ → ℕ) → sum n (λ i. f i + g i) ≡ sum n f + sum n g
unfolding sum
sum_add zero f g = refl
sum_add (suc n) f g = omega (arith, sum_add n f g)

-- n numbers that are at most b
pub sum_most : (n b : ℕ) (f : ℕ → ℕ) → ((i : ℕ) → i < n → f i ≤ b) → sum n f ≤ n * b
unfolding sum
sum_most zero b f h = zero-le
sum_most (suc n) b f h = rw suc-mul (add-le-add (sum_most n b f (λ i l. h i (omega arith))) (h n (le_refl _)))

pub bit_most : (b : Bool) → bit b ≤ 1
bit_most true = omega arith
bit_most false = omega arith

bit_one : (b : Bool) → bit b ≡ 1 → b ≡ true
bit_one true e = refl
bit_one false e = absurd (omega arith)

pub count_most : (n : ℕ) (p : ℕ → Bool) → count n p ≤ n
unfolding sum
count_most zero p = omega arith
count_most (suc n) p = omega (arith, count_most n p, bit_most (p n))

-- where as many pass as there are, each passes
pub count-all : (n : ℕ) (p : ℕ → Bool) → count n p ≡ n → (i : ℕ) → i < n → p i ≡ true
unfolding sum
count-all zero p e i h = absurd (omega arith)
count-all (suc n) p e i h =
    let m = count_most n p in
    let b = bit_most (p n) in
    ⊎_elim (λ (q : i ≡ n). rw q (bit_one (p n) (omega arith)))
    (λ (l : i < n). count-all n p (omega arith) i l)
    (eq-or-lt_of_le (omega arith))

-- where each that passes costs the same
cost_step : (b : Bool) (d m n : ℕ) → m ≡ d * n → m + cond b d 0 ≡ d * (n + bit b)
cost_step true d m n e = omega (arith, mul-add d n 1)
cost_step false d m n e = omega (arith, mul-add d n 0)

pub sum-cost : (n d : ℕ) (p : ℕ → Bool) → sum n (λ i. cond (p i) d 0) ≡ d * count n p
unfolding sum
sum-cost zero d p = omega arith
sum-cost (suc n) d p = cost_step (p n) d _ _ (sum-cost n d p)

-- a test that holds only in the first G of each 32 places
module _ (p : ℕ → Bool) (G : ℕ) (only : (i : ℕ) → p i ≡ true → i % 32 < G) where
  -- holds in a block of 32 at no more than G places
  block_most : (m k : ℕ) → m % 32 ≡ 0 → k ≤ 32 → count (m + k) p ≤ count m p + min k G
  unfolding sum
  block_most m zero z h = rw add-zero (omega arith)
  block_most m (suc k) z h = rw add-suc (go (p (m + k)) refl (block_most m k z (omega arith)))
    where
      go : (b : Bool) → p (m + k) ≡ b → count (m + k) p ≤ count m p + min k G → count (m + k) p + bit b ≤ count m p + min (suc k) G
      go true e ih = omega (arith, only (m + k) e)
      go false e ih = omega arith

  -- and in d blocks at no more than d times G
  pub count_blocks : (d : ℕ) → count (d * 32) p ≤ d * G
  unfolding sum
  count_blocks zero = zero-le
  count_blocks (suc d) = rw (suc-mul d 32, suc-mul d G) (omega (arith, count_blocks d, block_most (d * 32) 32 (omega arith) (le_refl _)))
