-- Laws of lists: tests of all items, the last items, and the items kept, where an item comes behind.
use Rattle.std.proofs.Common.{ℕ, zero, suc, ◌+◌, ◌-◌, ◌<◌, Bool, true, false, cond, ◌&&◌, List, [], ◌∷◌, ◌++◌, ◌≡◌, length, take, drop, map, arith}
use mathlib.Core.Logic.{⊎_elim}
use mathlib.Core.Path.{refl, sym, ap, ◌∙◌}
use mathlib.Core.Bool.{and_assoc, and-true, false≢true}
use native.Mathlib.Nat.{eq-or-lt_of_le}
use native.Mathlib.Numerals.{add-one}
use Rattle.std.specs.Cmp.{first_so, second_so}
use Rattle.wire.proofs.Bools.{never}
use lib.ListN.{length-append, length-drop, take-append-drop}
use lib.Seq.{drop-drop}
use Rattle.std.proofs.lemmas.List.{drop-append-le}
use Rattle.window.specs.Laws.{last}
use Rattle.wire.specs.Choose.{all}
use Rattle.wire.specs.Lists.{keep, joined, table}
use Rattle.wire.proofs.Lists.{joined_more}

module _ {A : Type 0} where
  -- all of two lists, one behind the other
  pub all_append : (p : A → Bool) (xs ys : List A) → all (map p (xs ++ ys)) ≡ (all (map p xs) && all (map p ys))
  unfolding all
  all_append p [] ys = refl
  all_append p (x ∷ xs) ys = rw (all_append p xs ys) (sym (and_assoc (p x) (all (map p xs)) (all (map p ys))))

  -- an item behind a list is kept behind what was kept
  pub keep_push : (p : A → Bool) (xs : List A) (x : A) → keep p (xs ++ x ∷ []) ≡ keep p xs ++ cond (p x) (x ∷ []) []
  unfolding keep
  keep_push p [] x = refl
  keep_push p (y ∷ xs) x = rw (keep_push p xs x) (go (p y))
    where
      go : (b : Bool) → cond b (y ∷ (keep p xs ++ cond (p x) (x ∷ []) [])) (keep p xs ++ cond (p x) (x ∷ []) []) ≡ cond b (y ∷ keep p xs) (keep p xs) ++ cond (p x) (x ∷ []) []
      go true = refl
      go false = refl

  -- the first place of a table, and the others
  pub table_first : (n : ℕ) (f : ℕ → A) → table (n + 1) f ≡ f 0 ∷ table n (λ i. f (i + 1))
  unfolding joined
  table_first zero f = refl
  table_first (suc n) f =
      joined_more (λ i. f i ∷ []) (suc n)
      ∙ ap (λ xs. xs ++ f (suc n) ∷ []) (ap (λ (k : ℕ). table k f) (sym (add-one n)) ∙ table_first n f)
      ∙ ap (λ (k : ℕ). f 0 ∷ (table n (λ i. f (i + 1)) ++ f k ∷ [])) (sym (add-one n))

  -- all of a list that is cut at its front, and of the items kept by a test that asks it
  pub all_drop : (p : A → Bool) (n : ℕ) (xs : List A) → all (map p xs) ≡ true → all (map p (drop n xs)) ≡ true
  all_drop p n xs e =
      second_so (all (map p (take n xs))) (all (map p (drop n xs)))
      (sym (all_append p (take n xs) (drop n xs)) ∙ ap (λ ys. all (map p ys)) (take-append-drop n xs) ∙ e)

  pub all_kept : (p q : A → Bool) → ((x : A) → q x ≡ true → p x ≡ true) → (xs : List A) → all (map p (keep q xs)) ≡ true
  unfolding all keep
  all_kept p q h [] = refl
  all_kept p q h (x ∷ xs) = go (q x) (h x) (all_kept p q h xs)
    where
      go : (b : Bool) → (b ≡ true → p x ≡ true) → all (map p (keep q xs)) ≡ true → all (map p (cond b (x ∷ keep q xs) (keep q xs))) ≡ true
      go true k e = rw (k refl) e
      go false k e = e

  -- the last items of a list with one behind it
  pub last_push : (n : ℕ) (xs : List A) (x : A) → last n (last n xs ++ x ∷ []) ≡ last n (xs ++ x ∷ [])
  last_push n xs x =
      let k : ℕ = length xs - n in
      let e : last n xs ++ x ∷ [] ≡ drop k (xs ++ x ∷ []) = sym (drop-append-le k xs (x ∷ []) (omega arith)) in
      let m : k + (length (drop k (xs ++ x ∷ [])) - n) ≡ length (xs ++ x ∷ []) - n = simp (length-drop, length-append) (omega arith) in
      ap (last n) e
      ∙ drop-drop (length (drop k (xs ++ x ∷ [])) - n) k (xs ++ x ∷ [])
      ∙ ap (λ (j : ℕ). drop j (xs ++ x ∷ [])) m

  module _ (p : A → Bool) (f : ℕ → A) where
    all_more : (n : ℕ) → all (map p (table (n + 1) f)) ≡ (all (map p (table n f)) && p (f n))
    unfolding all
    all_more n =
        ap (λ xs. all (map p xs)) (joined_more (λ i. f i ∷ []) n)
        ∙ all_append p (table n f) (f n ∷ [])
        ∙ ap (λ b. all (map p (table n f)) && b) (and-true (p (f n)))

    -- a table whose places pass, and a place more that passes
    pub table_more : (n : ℕ) → all (map p (table n f)) ≡ true → p (f n) ≡ true → all (map p (table (n + 1) f)) ≡ true
    table_more n e h = all_more n ∙ rw (e, h) refl

    table_all : (n : ℕ) → all (map p (table n f)) ≡ true → (i : ℕ) → i < n → p (f i) ≡ true
    table_all zero e i h = absurd (omega arith)
    table_all (suc n) e i h =
        let m = sym (all_more n) ∙ ap (λ (k : ℕ). all (map p (table k f))) (add-one n) ∙ e in
        ⊎_elim (λ (q : i ≡ n). rw q (second_so (all (map p (table n f))) (p (f n)) m))
        (λ (l : i < n). table_all n (first_so (all (map p (table n f))) (p (f n)) m) i l)
        (eq-or-lt_of_le (omega arith))

    -- a place that does not pass
    pub table_fails : (n i : ℕ) → i < n → p (f i) ≡ false → all (map p (table n f)) ≡ false
    table_fails n i h e = never (all (map p (table n f))) (λ q. false≢true (sym e ∙ table_all n q i h))
