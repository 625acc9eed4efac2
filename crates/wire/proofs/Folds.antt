-- Laws of walks over a list: what each step keeps the walk keeps, and what a step passes over may be left out.
use mathlib.Core.Bool.{Bool, true, false, cond}
use mathlib.Core.List.{List, [], ◌∷◌, foldl, map}
use mathlib.Core.Path.{◌≡◌, refl}
use Rattle.wire.specs.Choose.{all}
use Rattle.wire.specs.Lists.{keep}
use Rattle.std.specs.Cmp.{first_so, second_so}

-- two walks of one list keep what each step keeps
pub fold_keeps : {A B R : Type 0} (I : A → B → Type 0) (p : A → R → A) (q : B → R → B)
    → ((a : A) (b : B) (r : R) → I a b → I (p a r) (q b r))
    → (a : A) (b : B) (rs : List R) → I a b → I (foldl p a rs) (foldl q b rs)
fold_keeps I p q h a b [] i = i
fold_keeps I p q h a b (r ∷ rs) i = fold_keeps I p q h (p a r) (q b r) rs (h a b r i)

-- and so does one walk
pub fold_kept : {A R : Type 0} (P : A → Type 0) (p : A → R → A) → ((a : A) (r : R) → P a → P (p a r))
    → (a : A) (rs : List R) → P a → P (foldl p a rs)
fold_kept P p h a rs i = fold_keeps (λ a (u : Unit {0}). P a) p (λ u r. u) (λ a u r. h a r) a tt rs i

-- also where a step keeps it of items that pass a test, and all do
pub fold_kept_of : {A R : Type 0} (P : A → Type 0) (q : R → Bool) (p : A → R → A) → ((a : A) (r : R) → q r ≡ true → P a → P (p a r))
    → (a : A) (rs : List R) → all (map q rs) ≡ true → P a → P (foldl p a rs)
unfolding all
fold_kept_of P q p h a [] e i = i
fold_kept_of P q p h a (r ∷ rs) e i = fold_kept_of P q p h (p a r) rs (second_so (q r) (all (map q rs)) e) (h a r (first_so (q r) (all (map q rs)) e) i)

-- what a step passes over may be left out
pub keep_fold : {A R : Type 0} (p : R → Bool) (q : A → R → A) → ((a : A) (r : R) → p r ≡ false → q a r ≡ a)
    → (a : A) (rs : List R) → foldl q a (keep p rs) ≡ foldl q a rs
unfolding keep
keep_fold p q h a [] = refl
keep_fold {A} {R} p q h a (r ∷ rs) = go (p r) refl (λ b. keep_fold p q h b rs)
  where
    go : (x : Bool) → p r ≡ x → ((b : A) → foldl q b (keep p rs) ≡ foldl q b rs)
        → foldl q a (cond x (r ∷ keep p rs) (keep p rs)) ≡ foldl q (q a r) rs
    go true e ih = ih (q a r)
    go false e ih = rw (h a r e) (ih a)
