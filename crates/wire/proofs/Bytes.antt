-- Laws of numbers in bytes: how large they are, and a number that was written is read again.
use Prim.Native.Nat.{ℕ, zero, suc, ◌+◌, ◌*◌, ◌/◌, ◌%◌, ◌≤◌, ◌<◌}
use mathlib.Core.Bool.{true}
use mathlib.Core.List.{List, [], ◌∷◌, ◌++◌}
use mathlib.Core.Path.{◌≡◌, refl}
use native.Mathlib.Nat.{div-div-eq-div-mul}
use native.Mathlib.Omega.{arith}
use lib.Dec.{ltb, lit≤}
use lib.ListN.{get_or, take, drop}
use borrow.Author.Tests.{ltb-true}
use Rattle.wire.specs.Bytes.{are_bytes, u16_at, u32_at, u16_bytes, u32_bytes}
use Rattle.wire.specs.Choose.{all}
use Rattle.std.specs.Cmp.{first_so, second_so}

-- parts of a list of bytes are of bytes
pub bytes_take : (n : ℕ) (S : List ℕ) → are_bytes S ≡ true → are_bytes (take n S) ≡ true
unfolding are_bytes all
bytes_take zero S e = refl
bytes_take (suc n) [] e = refl
bytes_take (suc n) (b ∷ bs) e = rw (first_so (ltb b 256) (are_bytes bs) e) (bytes_take n bs (second_so (ltb b 256) (are_bytes bs) e))

pub bytes_drop : (n : ℕ) (S : List ℕ) → are_bytes S ≡ true → are_bytes (drop n S) ≡ true
unfolding are_bytes all
bytes_drop zero S e = e
bytes_drop (suc n) [] e = refl
bytes_drop (suc n) (b ∷ bs) e = bytes_drop n bs (second_so (ltb b 256) (are_bytes bs) e)

-- a byte is below 256, so that a number of four of them is below 2^32
byte_most : (S : List ℕ) → are_bytes S ≡ true → (i : ℕ) → get_or S i 0 ≤ 255
unfolding are_bytes all
byte_most [] e i = lit≤ tt
byte_most (b ∷ bs) e zero = omega (arith, ltb-true b 256 (first_so (ltb b 256) (are_bytes bs) e))
byte_most (b ∷ bs) e (suc i) = byte_most bs (second_so (ltb b 256) (are_bytes bs) e) i

pub u32_most : (S : List ℕ) (i : ℕ) → are_bytes S ≡ true → u32_at S i ≤ 4294967295
unfolding u32_at u16_at
u32_most S i e = omega (arith, byte_most S e i, byte_most S e (i + 1), byte_most S e (i + 2), byte_most S e (i + 2 + 1))

-- a number within its range, written and read again, is itself
two_bytes : (n : ℕ) → n < 65536 → n % 256 + 256 * (n / 256 % 256) ≡ n
two_bytes n h = omega arith

pub u16_again : (n : ℕ) (rest : List ℕ) → n < 65536 → u16_at (u16_bytes n ++ rest) 0 ≡ n
unfolding u16_at
u16_again n rest h = two_bytes n h

pub u32_again : (n : ℕ) (rest : List ℕ) → n < 4294967296 → u32_at (u32_bytes n ++ rest) 0 ≡ n
unfolding u32_at u16_at
u32_again n rest h =
    let low : n % 256 + 256 * (n / 256 % 256) ≡ n % 65536 = omega arith in
    let high : n / 65536 % 256 + 256 * (n / 16777216 % 256) ≡ n / 65536 = rw (← div-div-eq-div-mul n 65536 256) (two_bytes (n / 65536) (omega arith)) in
    omega arith
