-- A code of another length than two is no group's.
use Prim.Native.Nat.{ℕ}
use mathlib.Core.Bool.{false}
use mathlib.Core.List.{List}
use mathlib.Core.Path.{◌≡◌, refl, ◌∙◌}
use lib.ListN.{length}
use borrow.Author.Tests.{ne_eqb}
use Rattle.std.specs.Prelude.{None}
use Rattle.wire.specs.Choose.{all}
use Rattle.wire.proofs.Choose.{none_some}
use Rattle.lookup.specs.Lookup.{group_is, group_listed, group_found}
use Rattle.lookup.specs.declared.Layout.{Layout}
use Rattle.lookup.proofs.Codes.{codes_stand}

pub unlisted_length : (S : List ℕ) (l : Layout) (C : List ℕ) → (length C ≡ 2 → ⊥) → group_found S l C ≡ None
unfolding group_found group_listed all
unlisted_length S l C h =
    let none : group_listed S l C ≡ false
    = none_some l.groups (group_is S l.first C) (λ i k. (codes_stand S).group l.first C i ∙ rw (ne_eqb (length C) 2 h) refl) in
    rw none refl
