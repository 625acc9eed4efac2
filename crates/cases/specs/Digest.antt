-- The digest of a list of numbers.
-- Assumes nothing.
use Rattle.std.specs.Prelude.{ℕ, ◌+◌, ◌*◌, ◌%◌, List, fold}

-- 2 ^ 61 - 1
abbrev pub modulus : ℕ
modulus = 2305843009213693951

-- a digest, with the numbers of a list taken into it one after the other
abbrev pub digest_of : ℕ → List ℕ → ℕ
digest_of = fold (λ d n. (31 * d + n) % modulus)
