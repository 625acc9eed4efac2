-- The number of a record's kind, and the lengths that a kind allows.
use Prim.Native.Nat.{ℕ, ◌%◌, ◌≤◌}
use mathlib.Core.Bool.{Bool, true, false, cond, false≢true}
use mathlib.Core.Path.{◌≡◌, refl}
use native.Mathlib.Omega.{arith}
use lib.Dec.{eqb}
use borrow.Author.Tests.{eqb-true}
use Rattle.wire.specs.Choose.{choose, within}
use Rattle.std.specs.Cmp.{first_so}
use Rattle.wire.proofs.Bools.{range}
use Rattle.records.specs.Bodies.{head_kind, constants_kind, group_kind, firm_kind, least_group, largest_group, head_size, constants_size, firm_size}
use Rattle.schedule.specs.Check.{kind_of, length_ok}
use Rattle.schedule.specs.declared.scan.Kind.{Kind}
use Rattle.schedule.specs.declared.scan.Kind.TheVariants as kind

-- the number of a kind; any other kind has none
abbrev pub HasNumber : Kind → ℕ → Type 0
HasNumber kind.Head n = n ≡ head_kind
HasNumber kind.Constants n = n ≡ constants_kind
HasNumber kind.Group n = n ≡ group_kind
HasNumber kind.Firm n = n ≡ firm_kind
HasNumber kind.Other n = Unit {0}

pub kind_number : (n : ℕ) → HasNumber (kind_of n) n
unfolding kind_of choose
kind_number n = by (eqb n head_kind) (eqb n constants_kind) (eqb n group_kind) (eqb n firm_kind) refl refl refl refl
  where
    by : (a b c d : Bool) → eqb n head_kind ≡ a → eqb n constants_kind ≡ b → eqb n group_kind ≡ c → eqb n firm_kind ≡ d
        → HasNumber (cond a kind.Head (cond b kind.Constants (cond c kind.Group (cond d kind.Firm kind.Other)))) n
    by true b c d p q r s = eqb-true n head_kind p
    by false true c d p q r s = eqb-true n constants_kind q
    by false false true d p q r s = eqb-true n group_kind r
    by false false false true p q r s = eqb-true n firm_kind s
    by false false false false p q r s = tt

-- a record's length says 7 to 144
pub length_bounds : (k : Kind) (len : ℕ) → length_ok k len ≡ true → (firm_size ≤ len) × (len ≤ largest_group)
unfolding length_ok
length_bounds kind.Head len h = omega (arith, eqb-true len head_size h)
length_bounds kind.Constants len h = omega (arith, eqb-true len constants_size h)
length_bounds kind.Group len h =
    omega (arith, range least_group largest_group len (first_so (within least_group largest_group len) (eqb (len % 2) 0) h))
length_bounds kind.Firm len h = omega (arith, eqb-true len firm_size h)
length_bounds kind.Other len h = absurd (false≢true h)
