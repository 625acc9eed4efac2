-- Texts: the bytes of letters and of numbers, and what writing a text into an output means.
-- Assumes nothing.
use Prim.Native.Char.{code}
use Rattle.std.specs.Prelude.{ℕ, ◌+◌, ◌-◌, ◌^◌, min, ◌&&◌, List, [], ◌∷◌, ◌++◌, ◌≡◌, ltb, eqb, length}
use Prim.Native.String.{String}
use Prim.Native.String as string
use Rattle.std.proofs.Math.Seq.{paste}
use Rattle.io.specs.Digits.{last_digits}
use Rattle.wire.specs.Choose.{seek}
use Rattle.text.specs.declared.Output.{Output}

-- the bytes of a quoted text, in ASCII
abbrev pub text : String → List ℕ
text string.[] = []
text (string.◌∷◌ letter letters) = code letter ∷ text letters

-- how many decimal digits a number below 10 ^ 20 has
abbrev pub digit_count : ℕ → ℕ
digit_count n = seek 1 20 (λ k. ltb n (10 ^ k))

-- a number in decimal, with no zeros in front
unfoldable pub decimal : ℕ → List ℕ
decimal n = last_digits 10 (digit_count n) n

-- a space and a number
abbrev pub field : ℕ → List ℕ
field n = text " " ++ decimal n

-- how much of the text T has room in the output O from the place `at` on; past the end there is none
abbrev pub room : (O : List ℕ) (at : ℕ) (T : List ℕ) → ℕ
room O at T = min (length O - at) (length T)

-- what writing the text T to the output p promises, of the output r that it leaves
pub record Wrote (p : Output) (T : List ℕ) (r : Output) : Type 0 where
  -- it is still the bytes that were lent
  pub same_reference : r.bytes.ghost_name ≡ p.bytes.ghost_name
  -- the next free byte stands after what had room
  pub next : r.at ≡ p.at + room p.bytes.now p.at T
  -- all so far had room, T too
  pub whole : r.whole ≡ p.whole && eqb (room p.bytes.now p.at T) (length T)
  -- as much of T as there is room for stands there, and all else stays
  pub output : r.bytes.now ≡ paste p.bytes.now p.at T (room p.bytes.now p.at T)
