-- The reason for a place, by its mark; and that the waivers named stand among the places.
use Prim.Native.Nat.{ℕ, ◌<◌}
use mathlib.Core.Bool.{Bool}
use mathlib.Core.List.{[], ◌∷◌, ◌++◌}
use mathlib.Core.Path.{◌≡◌, refl}
use native.Mathlib.Nat.{lt_trans}
use Rattle.std.specs.Prelude.{Option, Some, None}
use Rattle.wire.specs.Choose.{choose, last_below}
use Rattle.wire.proofs.Counts.{last_inside}
use Rattle.rules.specs.Marks.{group_of}
use Rattle.rules.specs.declared.Sides.{Sides}
use Rattle.records.specs.declared.fields.Group.{Group}
use Rattle.month.specs.declared.days.MonthSums.{MonthSums}
use Rattle.reason.specs.declared.Waiver.{Waiver}
use Rattle.reason.specs.declared.waivers.LastTwo.{LastTwo}
use Rattle.reason.specs.Beside.{Reason, sides_shown, sums_shown, waiver_shown, with_before, two_up_to, last_two, number_at, waivers_in, waiver_at, values_at, reason_by}

module _ (groups : (g : ℕ) → Group) (sums : (g : ℕ) → MonthSums) (sides : (i : ℕ) → Sides) (grouping marks : (i : ℕ) → ℕ) (i : ℕ) where
  abbrev it : Reason
  it = reason_by groups sums sides grouping marks i

  pub no-violation : marks i ≡ 0 → it ≡ record { mark = 0; values = [] }
  unfolding values_at choose
  no-violation e = rw e refl

  pub severe-reason : marks i ≡ 1 → it ≡ record { mark = 1; values = sides_shown (sides i) }
  unfolding values_at choose
  severe-reason e = rw e refl

  pub billed-reason : marks i ≡ 2 → {two : LastTwo} {w v : Waiver} → two ≡ waivers_in grouping marks (grouping i)
      → w ≡ waiver_at groups two.first → v ≡ waiver_at groups two.second
      → it ≡ record { mark = 2; values = sums_shown (sums (group_of i)) ++ waiver_shown w ++ waiver_shown v }
  unfolding values_at choose
  billed-reason k t a b = rw (a, b, t, k) refl

  pub monthly-reason : marks i ≡ 3 → it ≡ record { mark = 3; values = sums_shown (sums (group_of i)) }
  unfolding values_at choose
  monthly-reason e = rw e refl

  pub automatic-reason : marks i ≡ 4 → it ≡ record { mark = 4; values = number_at grouping marks i ∷ [] }
  unfolding values_at choose
  automatic-reason e = rw e refl

  pub granted-reason : marks i ≡ 5 → it ≡ record { mark = 5; values = [] }
  unfolding values_at choose
  granted-reason e = rw e refl

module _ (p : ℕ → Bool) where
  before_inside : (k i : ℕ) (o : Option ℕ) → last_below k p ≡ o → (with_before k o).second ≡ Some i → i ≡ k
  before_inside k i None e q = absurd cc
  before_inside k i (Some m) e q = cc

  first_before : (n k i : ℕ) → k < n → (o : Option ℕ) → last_below k p ≡ o → (with_before k o).first ≡ Some i → i < n
  first_before n k i h None e q = let z : k ≡ i = cc in rw (← z) h
  first_before n k i h (Some m) e q = let z : m ≡ i = cc in rw (← z) (lt_trans (last_inside k p m e) h)

  pub first_inside : (n i : ℕ) → (last_two n p).first ≡ Some i → i < n
  first_inside n i = go (last_below n p) refl
    where
      go : (o : Option ℕ) → last_below n p ≡ o → (two_up_to p o).first ≡ Some i → i < n
      go None e q = absurd cc
      go (Some k) e q = first_before n k i (last_inside n p k e) (last_below k p) refl q

  pub second_inside : (n i : ℕ) → (last_two n p).second ≡ Some i → i < n
  second_inside n i = go (last_below n p) refl
    where
      go : (o : Option ℕ) → last_below n p ≡ o → (two_up_to p o).second ≡ Some i → i < n
      go None e q = absurd cc
      go (Some k) e q = rw (before_inside k i (last_below k p) refl q) (last_inside n p k e)
