-- Lists that are built place by place, written over others, or kept in part.
-- Assumes nothing.
use Rattle.std.specs.Prelude.{ℕ, zero, suc, ◌+◌, Bool, cond, List, [], ◌∷◌, ◌++◌, length, take, drop}

module _ {A : Type 0} where
  -- f 0 ++ f 1 ++ .. ++ f (n - 1)
  unfoldable pub joined : (n : ℕ) → (ℕ → List A) → List A
  joined zero f = []
  joined (suc n) f = joined n f ++ f n

  -- f 0, f 1, .., f (n - 1)
  abbrev pub table : (n : ℕ) → (ℕ → A) → List A
  table n f = joined n (λ i. f i ∷ [])

  -- xs with vs written from the place `at` on
  abbrev pub put : (at : ℕ) → List A → List A → List A
  put at vs xs = take at xs ++ vs ++ drop (at + length vs) xs

  -- xs with ws written over its front
  abbrev pub over : List A → List A → List A
  over ws xs = ws ++ drop (length ws) xs

  -- the items of a list that pass a test, in their order
  unfoldable pub keep : (A → Bool) → List A → List A
  keep p [] = []
  keep p (x ∷ xs) = cond (p x) (x ∷ keep p xs) (keep p xs)
