-- A counted record passed every cause, and its firm and its group are those that were found.
use Prim.Native.Nat.{ℕ}
use mathlib.Core.Bool.{Bool, true, false, cond}
use mathlib.Core.List.{List}
use mathlib.Core.Path.{◌≡◌, refl}
use lib.Dec.{eqb}
use borrow.Author.Tests.{eqb-true}
use Rattle.wire.specs.Choose.{choose}
use Rattle.lookup.specs.declared.Layout.{Layout}
use Rattle.filing.specs.Causes.{firm_place_of, group_place_of, is_counted_record}
use Rattle.filing.specs.Filing.{refused_by, is_outside, counted_in, filing_by}

module _ (S : List ℕ) (l : Layout) (R : List ℕ) (cs : List (Bool × ℕ)) where
  pub record Located (f g : ℕ) : Type 0 where
    pub none : choose cs 0 ≡ 0
    pub counted : is_counted_record S l R ≡ true
    pub firm : f ≡ firm_place_of S l R
    pub group : g ≡ group_place_of S l R

  pub located : {f g : ℕ} → counted_in f g ≡ filing_by S l R cs → Located f g
  unfolding filing_by
  located {f} {g} = go (eqb (choose cs 0) 0) (is_counted_record S l R) refl refl
    where
      go : (b k : Bool) → eqb (choose cs 0) 0 ≡ b → is_counted_record S l R ≡ k
          → counted_in f g ≡ cond b (cond k (counted_in (firm_place_of S l R) (group_place_of S l R)) is_outside) (refused_by (choose cs 0)) → Located f g
      go true true e k q = record { none = eqb-true _ _ e; counted = k; firm = cc; group = cc }
      go true false e k q = absurd (cc)
      go false k e c q = absurd (cc)
