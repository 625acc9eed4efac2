-- Tables of causes that are joined place by place: the first that comes to a number decides.
use Prim.Native.Nat.{ℕ, zero, suc, ◌+◌, ◌<◌}
use mathlib.Core.Bool.{Bool, true, false, not, ◌&&◌}
use mathlib.Core.List.{List, [], ◌∷◌, ◌++◌}
use mathlib.Core.Logic.{⊎_elim}
use mathlib.Core.Path.{◌≡◌, refl, sym, subst, ◌∙◌}
use native.Mathlib.Nat.{eq-or-lt_of_le}
use native.Mathlib.Numerals.{add-one}
use native.Mathlib.Omega.{arith}
use lib.Dec.{eqb}
use borrow.Author.Tests.{eqb-true, eqb-false}
use Rattle.std.specs.Cmp.{first_so, second_so}
use Rattle.wire.specs.Choose.{choose}
use Rattle.wire.specs.Lists.{joined}
use Rattle.wire.proofs.Choose.{numbered, passed, choose_first, choose_second}

numbered_both : (cs ds : List (Bool × ℕ)) → numbered cs ≡ true → numbered ds ≡ true → numbered (cs ++ ds) ≡ true
numbered_both [] ds p q = q
numbered_both (c ∷ cs) ds p q =
    and_true (first_so (not (eqb c.1 0)) (numbered cs) p) (numbered_both cs ds (second_so (not (eqb c.1 0)) (numbered cs) p) q)
  where
    and_true : {a b : Bool} → a ≡ true → b ≡ true → (a && b) ≡ true
    and_true e f = rw (e, f) refl

module _ (f : ℕ → List (Bool × ℕ)) (each : (k : ℕ) → numbered (f k) ≡ true) where
  all_numbered : (n : ℕ) → numbered (joined n f) ≡ true
  unfolding joined
  all_numbered zero = refl
  all_numbered (suc n) = numbered_both (joined n f) (f n) (all_numbered n) (each n)

  -- where those so far come to none, the next one decides
  next_decides : (n : ℕ) → choose (joined n f) 0 ≡ 0 → choose (joined (suc n) f) 0 ≡ choose (f n) 0
  unfolding joined
  next_decides n e = choose_second (joined n f) (f n) (passed (joined n f) (all_numbered n) e)

  pub none_more : (n : ℕ) → choose (joined n f) 0 ≡ 0 → choose (f n) 0 ≡ 0 → choose (joined (n + 1) f) 0 ≡ 0
  none_more n e h = rw add-one (next_decides n e ∙ h)

  -- and so of all
  pub decides : (k n : ℕ) {m : ℕ} → k < n → choose (joined k f) 0 ≡ 0 → choose (f k) 0 ≡ m → (m ≡ 0 → ⊥) → choose (joined n f) 0 ≡ m
  unfolding joined
  decides k zero l e h z = absurd (omega arith)
  decides k (suc n) l e h z =
      ⊎_elim (λ q. rw (← q) (next_decides k e ∙ h)) (λ (less : k < n). choose_first (joined n f) (f n) (decides k n less e h z) z)
      (eq-or-lt_of_le (omega arith))

  -- what holds of 0 and of the number of each table holds of all
  pub kept : (Q : ℕ → Type 0) → Q 0 → ((k : ℕ) → Q (choose (f k) 0)) → (n : ℕ) → Q (choose (joined n f) 0)
  unfolding joined choose
  kept Q z h zero = z
  kept Q z h (suc n) = go (eqb (choose (joined n f) 0) 0) refl (kept Q z h n)
    where
      go : (b : Bool) → eqb (choose (joined n f) 0) 0 ≡ b → Q (choose (joined n f) 0) → Q (choose (joined n f ++ f n) 0)
      go true t q = subst Q (sym (next_decides n (eqb-true _ 0 t))) (h n)
      go false t q = subst Q (sym (choose_first (joined n f) (f n) refl (eqb-false _ 0 t))) q
