-- What a search by code tells, and where the groups stand.
use Prim.Native.Nat.{ℕ, ◌+◌, ◌<◌}
use mathlib.Core.Bool.{Bool, true, false, cond}
use mathlib.Core.List.{List}
use mathlib.Core.Path.{◌≡◌, refl, sym, ap}
use native.Mathlib.Numerals.{add-one}
use native.Mathlib.Omega.{arith}
use borrow.Author.Tests.{ltb-true}
use Rattle.std.specs.Prelude.{Some, None, is_some}
use Rattle.wire.specs.Bytes.{u16_at}
use Rattle.wire.specs.Choose.{seek, some}
use Rattle.wire.proofs.Bools.{cond-true, cond-false}
use Rattle.wire.proofs.Choose.{sought}
use Rattle.lookup.specs.Lookup.{group_start, group_found_at, group_place, group_is, group_listed, group_found, firm_is, firm_listed, firm_found}
use Rattle.lookup.specs.declared.GroupPlace.{GroupPlace}
use Rattle.lookup.specs.declared.Layout.{Layout}

-- a search finds something where there is something
pub some_found : {A : Type 0} (b : Bool) (a : A) → is_some (cond b (Some a) None) ≡ b
some_found true a = refl
some_found false a = refl

-- a code that was found is listed, and one that was not isn't
module _ {A : Type 0} (b : Bool) (a : A) where
  pub found-listed : {x : A} → Some x ≡ cond b (Some a) None → true ≡ b
  found-listed e = cond-true b _ _ (sym e) (λ q. cc)

  pub unlisted-listed : None ≡ cond b (Some a) None → false ≡ b
  unlisted-listed e = cond-false b _ _ (sym e) (λ q. cc)

-- and what was found is the first that has it
found_is : {A : Type 0} (b : Bool) (a : A) {x : A} → Some x ≡ cond b (Some a) None → a ≡ x
found_is true a e = cc
found_is false a e = cc

-- what a search for a code tells: of n records, i is the first that has it
pub record FoundAt (n : ℕ) (p : ℕ → Bool) (i : ℕ) : Type 0 where
  pub listed : some n p ≡ true
  pub first : seek 0 n p ≡ i
  pub inside : i < n
  pub holds : p i ≡ true

found_at : (n : ℕ) (p : ℕ → Bool) {i : ℕ} → some n p ≡ true → seek 0 n p ≡ i → FoundAt n p i
found_at n p t e =
    let inside = ltb-true (seek 0 n p) n t in
    rw (← e) (record { listed = t; first = refl; inside = inside; holds = (sought n p).found (omega arith) })

module _ (S : List ℕ) (l : Layout) (C : List ℕ) where
  pub firm-found : {i : ℕ} → Some i ≡ firm_found S l C → FoundAt l.firms (firm_is S l.start C) i
  unfolding firm_found firm_listed
  firm-found e = found_at l.firms _ (sym (found-listed _ _ e)) (found_is (firm_listed S l C) _ e)

  pub firm_unlisted : None ≡ firm_found S l C → firm_listed S l C ≡ false
  unfolding firm_found
  firm_unlisted e = sym (unlisted-listed _ _ e)

module _ (S : List ℕ) (l : Layout) (C : List ℕ) where
  pub group-found : {g : GroupPlace} → Some g ≡ group_found S l C → FoundAt l.groups (group_is S l.first C) g.index
  unfolding group_found group_listed
  group-found e = found_at l.groups _ (sym (found-listed _ _ e)) (ap (λ g. g.index) (found_is (group_listed S l C) _ e))

  -- the group stands where the first one does
  pub group_placed : {g : GroupPlace} → Some g ≡ group_found S l C → g ≡ group_found_at S l (group_place S l C)
  unfolding group_found
  group_placed e = sym (found_is (group_listed S l C) _ e)

  pub group_unlisted : None ≡ group_found S l C → group_listed S l C ≡ false
  unfolding group_found
  group_unlisted e = sym (unlisted-listed _ _ e)

-- a group's start, in the code's form of the next index
pub group_next : (S : List ℕ) (first i : ℕ) → group_start S first (i + 1) ≡ group_start S first i + u16_at S (group_start S first i)
unfolding group_start
group_next S first i = rw (add-one i)

pub group-first : (S : List ℕ) (first : ℕ) → group_start S first 0 ≡ first
unfolding group_start
group-first S first = refl
