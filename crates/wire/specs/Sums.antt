-- Sums and counts over the places below n.
-- Assumes nothing.
use Rattle.std.specs.Prelude.{ℕ, zero, suc, ◌+◌, Bool, true, false}

-- 1 where a test holds, else 0
abbrev pub bit : Bool → ℕ
bit true = 1
bit false = 0

-- f 0 + f 1 + .. + f (n - 1)
unfoldable pub sum : (n : ℕ) → (ℕ → ℕ) → ℕ
sum zero f = 0
sum (suc n) f = sum n f + f n

-- how many places below n pass the test
abbrev pub count : (n : ℕ) → (ℕ → Bool) → ℕ
count n p = sum n (λ i. bit (p i))
