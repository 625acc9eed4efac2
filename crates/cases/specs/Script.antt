-- Numbers of eight bytes, little-endian, and the places and pieces of a script.
-- Assumes nothing.
use Rattle.std.specs.Prelude.{ℕ, ◌+◌, ◌-◌, ◌*◌, min, max, List, length, take, drop}
use Rattle.wire.specs.Bytes.{u32_at}
use Rattle.cases.specs.declared.script.Script.{Script}

-- the number of eight bytes at a place of a list of bytes; past the end stand zeros
unfoldable pub u64_at : List ℕ → ℕ → ℕ
u64_at s i = u32_at s i + 4294967296 * u32_at s (i + 4)

-- the place n bytes on, and no further than the end of s; a place past the end stays
abbrev pub past_in : List ℕ → ℕ → ℕ → ℕ
past_in s at n = max at (min (at + n) (length s))

-- where the piece at a place ends: four bytes of size, then as many bytes as that, or as s still has
abbrev pub piece_end : List ℕ → ℕ → ℕ
piece_end s at = past_in s (past_in s at 4) (u32_at s at)

-- the bytes of the piece at a place, without those of its size
abbrev pub piece_at : List ℕ → ℕ → List ℕ
piece_at s at = take (piece_end s at - past_in s at 4) (drop (past_in s at 4) s)

-- a script after n bytes more of it were read
abbrev pub bytes_on : Script → ℕ → Script
bytes_on s n = record s { at = past_in s.bytes.now s.at n }

-- a script after a piece more of it was read
abbrev pub piece_on : Script → Script
piece_on s = record s { at = piece_end s.bytes.now s.at }
