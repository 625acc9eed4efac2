-- A refusal is no answer, and equal answers are of equal things.
use Prim.Native.Nat.{ℕ}
use mathlib.Core.Path.{◌≡◌}
use native.Mathlib.Omega.{arith}
use Rattle.refusals.specs.Outcome.{refused, good}

pub refused-good : {A : Type 0} {n o : ℕ} {a : A} → refused n o ≡ good a → ⊥
refused-good e = let z : ◌≡◌ {A = ℕ} 0 1 = cc in omega arith

pub good_is : {A : Type 0} {a b : A} → good a ≡ good b → a ≡ b
good_is e = cc
