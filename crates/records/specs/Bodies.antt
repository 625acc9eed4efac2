-- A record's length, kind and body, and the kinds and lengths of a schedule's records (document 01, "Records", and document 02, 2.9).
-- Assumes nothing.
use Rattle.std.specs.Prelude.{ℕ, ◌+◌, ◌-◌, List, take, drop}
use Rattle.wire.specs.Bytes.{u16_at}

-- Records: length (two bytes, of the whole record)
abbrev pub length_at : (S : List ℕ) → (at : ℕ) → ℕ
length_at S at = u16_at S at

-- Records: kind (two bytes)
abbrev pub kind_at : (S : List ℕ) → (at : ℕ) → ℕ
kind_at S at = u16_at S (at + 2)

-- Records: the bytes after length and kind, to the end
abbrev pub rest_at : (S : List ℕ) → (at : ℕ) → List ℕ
rest_at S at = drop (at + 4) S

-- Records: body, those of them that the record's length takes in
abbrev pub body_at : (S : List ℕ) → (at : ℕ) → List ℕ
body_at S at = take (length_at S at - 4) (rest_at S at)

-- Records: kind 1, a head
abbrev pub head_kind : ℕ
head_kind = 1

-- 2.9: kind 6, the Program's constants
abbrev pub constants_kind : ℕ
constants_kind = 6

-- Records: kind 2, a group
abbrev pub group_kind : ℕ
group_kind = 2

-- Records: kind 3, a firm
abbrev pub firm_kind : ℕ
firm_kind = 3

-- Records, kind 1: head, 10 bytes
abbrev pub head_size : ℕ
head_size = 10

-- 2.9, kind 6: constants, 28 bytes
abbrev pub constants_size : ℕ
constants_size = 28

-- Records, kind 2: group, 16 + 2n with n 1 to 64: the smallest
abbrev pub least_group : ℕ
least_group = 18

-- and the largest
abbrev pub largest_group : ℕ
largest_group = 144

-- Records, kind 3: firm, 7 bytes
abbrev pub firm_size : ℕ
firm_size = 7
