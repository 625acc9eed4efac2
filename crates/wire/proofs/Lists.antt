-- Laws of lists that are joined place by place, and of a part of a slice that was lent and is back.
use Prim.Native.Nat.{ℕ, zero, suc, ◌+◌, ◌-◌, ◌*◌, ◌≤◌, ◌<◌, zero-le}
use mathlib.Core.List.{List, [], ◌∷◌, ◌++◌, append_assoc, append-nil}
use mathlib.Core.Logic.{⊎_elim}
use mathlib.Core.Path.{◌≡◌, refl, sym, ap, ap₂, ◌∙◌}
use native.Mathlib.Nat.{le_refl, le_trans, eq-or-lt_of_le, add-zero, add-le-add, suc-mul}
use native.Mathlib.Numerals.{add-one}
use native.Mathlib.Omega.{arith}
use lib.ListN.{length, take-append-drop, take, drop, length-append, length-drop, length-take, drop_of_length-le, get_or, set, get_or-append, replicate}
use lib.Seq.{length-take-le, take_all, drop-drop, take-append_seam, drop-append-add, get_or-append-add, get_or-take, get_or-drop, drop-cons, set-append_seam, drop_at, get_or_at}
use Rattle.std.proofs.lemmas.List.{length-replicate, replicate_more}
use Rattle.wire.specs.Lists.{joined, table, put, over}

module _ {A : Type 0} where
  -- `&mut xs[at..]` lends this list
  pub part_lent : (at : ℕ) (xs : List A) → take (length xs - at) (drop at xs) ≡ drop at xs
  part_lent at xs = take_all (length xs - at) (drop at xs) (simp length-drop (le_refl _))

  -- and the whole comes back as this one, where the callee left ys in the part
  pub part_back : (at : ℕ) (xs ys : List A) → take at xs ++ (ys ++ drop (length xs - at) (drop at xs)) ≡ take at xs ++ ys
  part_back at xs ys =
      let none : drop (length xs - at) (drop at xs) ≡ [] = drop_of_length-le (drop at xs) {i = length xs - at} (simp length-drop (le_refl _)) in
      rw (none, append-nil)

  pub length_over : (ws xs : List A) → length ws ≤ length xs → length (over ws xs) ≡ length xs
  length_over ws xs h = simp (length-append, length-drop) (omega arith)

  -- `&mut xs[at..]` was lent to a callee that wrote vs over that part's front, and left ys in it
  pub put_part : (at : ℕ) (vs xs ys : List A) → ys ≡ vs ++ drop (length vs) (take (length xs - at) (drop at xs))
      → take at xs ++ (ys ++ drop (length xs - at) (drop at xs)) ≡ put at vs xs
  put_part at vs xs ys h = rw (part_back, h, part_lent, drop-drop) (sym (append_assoc (take at xs) vs (drop (at + length vs) xs)))

  pub put-none : (at : ℕ) (xs : List A) → put at [] xs ≡ xs
  put-none at xs = rw (add-zero, append-nil, take-append-drop)

  -- vs written right after what is over the front
  pub put_over : (ws vs xs : List A) (at : ℕ) → at ≡ length ws → put at vs (over ws xs) ≡ over (ws ++ vs) xs
  put_over ws vs xs at e = rw e (simp (take-append_seam, drop-append-add, drop-drop, length-append, append_assoc))

  pub length-put : (at : ℕ) (vs xs : List A) → at + length vs ≤ length xs → length (put at vs xs) ≡ length xs
  length-put at vs xs h = simp (length-append, length-take, length-drop) (omega arith)

  -- reading a list into which vs was put, inside what was put and outside it, and what lies behind
  module _ (at : ℕ) (vs xs : List A) (room : at + length vs ≤ length xs) where
    -- up to the end of what was put there are this many places
    length_till : length (take at xs ++ vs) ≡ at + length vs
    length_till = simp (length-append, length-take) (omega arith)

    pub put_in : (k : ℕ) (d : A) → k < length vs → get_or (put at vs xs) (at + k) d ≡ get_or vs k d
    put_in k d h =
        let e : length (take at xs) ≡ at = length-take-le at xs (omega arith) in
        get_or-append (take at xs ++ vs) (drop (at + length vs) xs) d (at + k) (rw length_till (omega arith))
        ∙ ap (λ (n : ℕ). get_or (take at xs ++ vs) (n + k) d) (sym e)
        ∙ get_or-append-add (take at xs) vs k d

    pub put_front : (k : ℕ) (d : A) → k < at → get_or (put at vs xs) k d ≡ get_or xs k d
    put_front k d h =
        let e : length (take at xs) ≡ at = length-take-le at xs (omega arith) in
        get_or-append (take at xs ++ vs) (drop (at + length vs) xs) d k (rw length_till (omega arith))
        ∙ get_or-append (take at xs) vs d k (omega arith)
        ∙ get_or-take at xs k d h

    pub drop-put : (n : ℕ) → at + length vs ≤ n → drop n (put at vs xs) ≡ drop n xs
    drop-put n h =
        let e : n ≡ length (take at xs ++ vs) + (n - (at + length vs)) = rw length_till (omega arith) in
        let f : at + length vs + (n - (at + length vs)) ≡ n = omega arith in
        ap (λ (k : ℕ). drop k (put at vs xs)) e
        ∙ drop-append-add (take at xs ++ vs) (drop (at + length vs) xs) (n - (at + length vs))
        ∙ drop-drop (n - (at + length vs)) (at + length vs) xs
        ∙ ap (λ (k : ℕ). drop k xs) f

    pub put_past : (k : ℕ) (d : A) → at + length vs ≤ k → get_or (put at vs xs) k d ≡ get_or xs k d
    put_past k d h =
        let e : k ≡ k + 0 = omega arith in
        ap (λ (n : ℕ). get_or (put at vs xs) n d) e
        ∙ sym (get_or-drop k (put at vs xs) 0 d)
        ∙ ap (λ l. get_or l 0 d) (drop-put k h)
        ∙ get_or-drop k xs 0 d
        ∙ ap (λ (n : ℕ). get_or xs n d) (sym e)

  module _ (f : ℕ → List A) where
    pub joined-none : joined 0 f ≡ []
    unfolding joined
    joined-none = refl

    pub joined_more : (n : ℕ) → joined (n + 1) f ≡ joined n f ++ f n
    unfolding joined
    joined_more n = rw add-one

    -- more places, no shorter a list
    pub joined_le : (i n : ℕ) → i ≤ n → length (joined i f) ≤ length (joined n f)
    unfolding joined
    joined_le i zero h = let e : i ≡ 0 = omega arith in rw e (le_refl 0)
    joined_le i (suc n) h =
        ⊎_elim (λ e. rw e (le_refl _))
        (λ (lt : i < suc n). le_trans (joined_le i n (omega arith)) (simp length-append (omega arith)))
        (eq-or-lt_of_le h)

    -- what holds of a buffer xs with room for n places, when the lists of the places before i are over its front:
    -- place i fits, and the buffer is as long as it was
    module _ (i n : ℕ) (xs : List A) (room : length (joined n f) ≤ length xs) where
      pub joined_fits : i < n → length (joined i f) + length (f i) ≤ length xs
      joined_fits h = le_trans (rw (← length-append, ← joined_more) (joined_le (i + 1) n (omega arith))) room

      pub joined-kept : i ≤ n → length (over (joined i f) xs) ≡ length xs
      joined-kept h = length_over (joined i f) xs (le_trans (joined_le i n h) room)

    -- the lists of the first places come first
    pub joined-front : (i n : ℕ) → i ≤ n → joined n f ≡ joined i f ++ drop (length (joined i f)) (joined n f)
    unfolding joined
    joined-front i zero h = let e : i ≡ 0 = omega arith in rw e
    joined-front i (suc n) h =
        ⊎_elim (λ e. rw e (sym (ap (λ ys. joined (suc n) f ++ ys) (drop_of_length-le (joined (suc n) f) {i = length (joined (suc n) f)} (le_refl _)) ∙ append-nil _)))
        (λ (lt : i < suc n).
        let more = ap (λ ys. ys ++ f n) (joined-front i n (omega arith)) ∙ append_assoc (joined i f) (drop (length (joined i f)) (joined n f)) (f n) in
        more ∙ ap (λ ys. joined i f ++ ys) (sym (ap (drop (length (joined i f))) more ∙ drop_at (joined i f) _ _ refl)))
        (eq-or-lt_of_le h)

    -- what stands behind the lists of the places before i starts with that of place i
    pub joined_behind : (i n : ℕ) → i < n → (ys : List A)
        → drop (length (joined i f)) (joined n f ++ ys) ≡ f i ++ (drop (length (joined (i + 1) f)) (joined n f) ++ ys)
    joined_behind i n h ys =
        ap (λ xs. drop (length (joined i f)) (xs ++ ys)) (joined-front (i + 1) n (omega arith) ∙ ap (λ xs. xs ++ drop (length (joined (i + 1) f)) (joined n f)) (joined_more i))
        ∙ ap (drop (length (joined i f))) (append_assoc (joined i f ++ f i) _ ys ∙ append_assoc (joined i f) (f i) _)
        ∙ drop_at (joined i f) _ _ refl

  -- what is the same below n joins to the same list
  pub joined_same : (n : ℕ) (f g : ℕ → List A) → ((i : ℕ) → i < n → f i ≡ g i) → joined n f ≡ joined n g
  unfolding joined
  joined_same zero f g h = refl
  joined_same (suc n) f g h = ap₂ ◌++◌ (joined_same n f g (λ i l. h i (omega arith))) (h n (omega arith))

  -- n lists of at most m items
  pub joined_most : (n m : ℕ) (f : ℕ → List A) → ((i : ℕ) → length (f i) ≤ m) → length (joined n f) ≤ n * m
  unfolding joined
  joined_most zero m f h = zero-le
  joined_most (suc n) m f h = rw (length-append, suc-mul) (add-le-add (joined_most n m f h) (h n))

  -- a table of one value is its copies, also where they fill a list's front
  pub table-replicate : (n : ℕ) (v : A) → table n (λ i. v) ≡ replicate n v
  unfolding joined
  table-replicate zero v = refl
  table-replicate (suc n) v = rw (table-replicate n v) (replicate_more n v ∙ ap (λ (k : ℕ). replicate k v) (add-one n))

  pub table_filled : (n : ℕ) (v : A) (xs ys : List A) → n ≤ length xs → ys ≡ replicate (length (take n xs)) v → ys ++ drop n xs ≡ over (table n (λ i. v)) xs
  table_filled n v xs ys h e = rw (e, length-take-le n xs h, table-replicate n v, length-replicate)

  -- an element read and written behind what is over the front
  module _ (ws xs : List A) where
    pub over_read : (d : A) → get_or (over ws xs) (length ws) d ≡ get_or xs (length ws) d
    over_read d =
        let e : length ws ≡ length ws + 0 = omega arith in
        ap (λ (n : ℕ). get_or (over ws xs) n d) e ∙ get_or-append-add ws (drop (length ws) xs) 0 d ∙ get_or-drop (length ws) xs 0 d ∙ ap (λ (n : ℕ). get_or xs n d) (sym e)

    pub over_write : (v : A) → length ws < length xs → set (over ws xs) (length ws) v ≡ over (ws ++ v ∷ []) xs
    over_write v h =
        rw (drop-cons xs (length ws) v, set-append_seam, append_assoc, length-append, add-one)

  -- an array that is filled from the front, one store a turn
  module _ (f : ℕ → A) where
    pub length-table : (n : ℕ) → length (table n f) ≡ n
    unfolding joined
    length-table zero = refl
    length-table (suc n) = let e = length-table n in simp length-append (omega arith)

    -- what stands at a place of the table, over a list and behind it
    pub table_at : (n i : ℕ) (d : A) → i < n → get_or (table n f) i d ≡ f i
    unfolding joined
    table_at zero i d h = absurd (omega arith)
    table_at (suc n) i d h =
        ⊎_elim (λ (e : i ≡ n). rw e (get_or_at (table n f) (f n) [] d n (length-table n)))
        (λ (l : i < n). get_or-append (table n f) (f n ∷ []) d i (rw length-table l) ∙ table_at n i d l)
        (eq-or-lt_of_le (omega arith))

    pub table_over : (n i : ℕ) (xs : List A) (d : A) → i < n → get_or (over (table n f) xs) i d ≡ f i
    table_over n i xs d h = get_or-append (table n f) (drop (length (table n f)) xs) d i (rw length-table h) ∙ table_at n i d h

    pub table_behind : (n : ℕ) (xs : List A) → drop n (over (table n f) xs) ≡ drop n xs
    table_behind n xs = drop_at (table n f) (drop (length (table n f)) xs) n (length-table n) ∙ ap (λ (k : ℕ). drop k xs) (length-table n)

    pub table_read : (i : ℕ) (xs : List A) (d : A) → get_or (over (table i f) xs) i d ≡ get_or xs i d
    table_read i xs d =
        ap (λ (n : ℕ). get_or (over (table i f) xs) n d) (sym (length-table i)) ∙ over_read (table i f) xs d ∙ ap (λ (n : ℕ). get_or xs n d) (length-table i)

    pub table_write : (i : ℕ) (v : A) (xs : List A) → i < length xs → v ≡ f i → set (over (table i f) xs) i v ≡ over (table (i + 1) f) xs
    table_write i v xs h e =
        rw (e, joined_more (λ j. f j ∷ []) i)
        (ap (λ (n : ℕ). set (over (table i f) xs) n (f i)) (sym (length-table i)) ∙ over_write (table i f) xs (f i) (rw length-table h))

    pub table_done : (n : ℕ) (xs : List A) → length xs ≡ n → over (table n f) xs ≡ table n f
    table_done n xs e = rw (length-table, drop_of_length-le xs {i = n} (omega arith), append-nil)
