-- No month has more than 31 days, so the bit of each day, and of the day past the last, is one of a mask's 32.
use Prim.Native.Nat.{ℕ, zero, suc, ◌%◌, ◌≤◌, zero-le}
use mathlib.Core.Bool.{Bool, true, ◌&&◌}
use mathlib.Core.List.{List, [], ◌∷◌}
use mathlib.Core.Path.{◌≡◌, refl}
use native.Mathlib.Omega.{arith}
use lib.Dec.{leb}
use lib.ListN.{get_or}
use borrow.Author.Tests.{leb-true}
use Rattle.std.specs.Cmp.{first_so, second_so}
use Rattle.wire.proofs.Bools.{cond_le}
use Rattle.calendar.specs.Calendar.{month_days, is_leap_february, days_in}

-- no number of a list is above b, by a test that computes
abbrev up_to : ℕ → List ℕ → Bool
up_to b [] = true
up_to b (x ∷ xs) = leb x b && up_to b xs

at_most : (b : ℕ) (xs : List ℕ) → up_to b xs ≡ true → (i : ℕ) → get_or xs i 0 ≤ b
at_most b [] e i = zero-le
at_most b (x ∷ xs) e zero = leb-true x b (first_so (leb x b) (up_to b xs) e)
at_most b (x ∷ xs) e (suc i) = at_most b xs (second_so (leb x b) (up_to b xs) e) i

pub days_most : (m : ℕ) → days_in m ≤ 31
unfolding days_in
days_most m = cond_le (is_leap_february m) (omega arith) (at_most 31 month_days refl (m % 12))
