-- Bytes as hexadecimal digits.
-- Assumes nothing.
use Rattle.std.specs.Prelude.{ℕ, ◌*◌, ◌/◌, ◌%◌, min, cond, List, eqb, length, get_or}
use Rattle.io.specs.Digits.{hex_digit_ascii}

-- the digit at a place of the text of a list of bytes: the upper half of byte 0, its lower half, the upper half of byte 1, ..
unfoldable pub hex_at : List ℕ → ℕ → ℕ
hex_at s i = hex_digit_ascii (cond (eqb (i % 2) 0) (get_or s (i / 2) 0 / 16) (get_or s (i / 2) 0 % 16))

-- how many digits of the text of s there is room for in t
abbrev pub hex_room : List ℕ → List ℕ → ℕ
hex_room s t = min (2 * length s) (length t)
