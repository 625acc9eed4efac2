-- Numbers of two and four bytes, little-endian (document 01, "Records").
-- Assumes nothing.
use Rattle.std.specs.Prelude.{ℕ, ◌+◌, ◌*◌, ◌/◌, ◌%◌, Bool, List, [], ◌∷◌, map, ltb, get_or}
use Rattle.wire.specs.Choose.{all}

-- every number of a list is a byte
unfoldable pub are_bytes : List ℕ → Bool
are_bytes S = all (map (λ b. ltb b 256) S)

-- the number that stands at a place of a list of bytes; past the end stand zeros
unfoldable pub u16_at : List ℕ → ℕ → ℕ
u16_at S i = get_or S i 0 + 256 * get_or S (i + 1) 0

unfoldable pub u32_at : List ℕ → ℕ → ℕ
u32_at S i = u16_at S i + 65536 * u16_at S (i + 2)

-- a number's bytes
abbrev pub u16_bytes : ℕ → List ℕ
u16_bytes n = n % 256 ∷ n / 256 % 256 ∷ []

abbrev pub u32_bytes : ℕ → List ℕ
u32_bytes n = n % 256 ∷ n / 256 % 256 ∷ n / 65536 % 256 ∷ n / 16777216 % 256 ∷ []
