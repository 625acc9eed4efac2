-- What an answer tells that is given only where a test holds.
use Rattle.std.proofs.Common.{Bool, true, false, cond, Some, None, ◌≡◌}
use mathlib.Core.Path.{refl}

module _ {A : Type 0} where
  pub checked_none : (b : Bool) (a : A) → cond b (Some a) None ≡ None → b ≡ false
  checked_none true a e = absurd cc
  checked_none false a e = refl

  pub checked_some : (b : Bool) (a r : A) → cond b (Some a) None ≡ Some r → (b ≡ true) × (r ≡ a)
  checked_some true a r e = (refl, cc)
  checked_some false a r e = absurd cc
