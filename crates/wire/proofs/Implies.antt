-- One test implies another. The one field is an order of numbers, so that sums and `omega` take it as it is.
use Prim.Native.Nat.{ℕ, ◌≤◌}
use mathlib.Core.Bool.{Bool, true, false, cond, not, ◌&&◌}
use mathlib.Core.Path.{◌≡◌, refl}
use native.Mathlib.Omega.{arith}
use lib.Dec.{leb}
use borrow.Author.Tests.{leb-true, leb-false}
use Rattle.wire.specs.Sums.{bit}

infixr 20 ◌⇒◌
pub record ◌⇒◌ (a b : Bool) : Type 0 where
  pub le : bit a ≤ bit b

pub not-⇒ : {a b : Bool} → a ⇒ b → not b ⇒ not a
not-⇒ {b = true} h = omega arith
not-⇒ {a = true} {b = false} h = omega arith
not-⇒ {a = false} {b = false} h = omega arith

pub and-⇒ : {a b c d : Bool} → a ⇒ b → c ⇒ d → a && c ⇒ b && d
and-⇒ {a = false} h k = omega arith
and-⇒ {a = true} {b = true} h k = k
and-⇒ {a = true} {b = false} h k = omega arith

pub leb-⇒ : {a a' b b' : ℕ} → a' ≤ a → b ≤ b' → leb a b ⇒ leb a' b'
leb-⇒ {a} {a'} {b} {b'} h k = go (leb a b) (leb a' b') refl refl
  where
    go : (x y : Bool) → leb a b ≡ x → leb a' b' ≡ y → x ⇒ y
    go false y p q = omega arith
    go true true p q = omega arith
    go true false p q = omega (arith, leb-true a b p, leb-false a' b' q)

pub follows : {a b : Bool} → a ⇒ b → a ≡ true → b ≡ true
follows {b = true} h e = refl
follows {a = true} {b = false} h e = absurd (omega arith)
follows {a = false} {b = false} h e = e

-- the greater value is chosen more often, and the other does not fall
pub cond_rises : {p p' : Bool} {a b b' : ℕ} → p ⇒ p' → b ≤ b' → b ≤ a → cond p a b ≤ cond p' a b'
cond_rises {p = true} {p' = true} h k l = omega arith
cond_rises {p = true} {p' = false} h k l = omega arith
cond_rises {p = false} {p' = true} h k l = l
cond_rises {p = false} {p' = false} h k l = k
