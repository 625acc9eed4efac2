-- Parts of a list that its end cuts short, and codes compared letter by letter.
use Prim.Native.Nat.{ℕ, min}
use mathlib.Core.Bool.{Bool, true, false, and-false}
use mathlib.Core.List.{List, [], ◌∷◌}
use mathlib.Core.Path.{◌≡◌, refl, sym, ap, ◌∙◌}
use native.Mathlib.Omega.{arith}
use lib.Dec.{leb, eqb}
use lib.ListN.{length, get_or, take}
use lib.Seq.{take_all}
use borrow.Author.Tests.{leb-true, leb-false, ne_eqb}
use Rattle.std.specs.Str.{bytes_eq}
use Rattle.wire.specs.Choose.{all}
use Rattle.records.specs.Fields.{same_code}

-- as many as there are, where more are asked for
pub take_least : (n : ℕ) (xs : List ℕ) → take (min n (length xs)) xs ≡ take n xs
take_least n xs = go (leb n (length xs)) refl
  where
    go : (b : Bool) → leb n (length xs) ≡ b → take (min n (length xs)) xs ≡ take n xs
    go true t =
        let same : min n (length xs) ≡ n = omega (arith, leb-true n (length xs) t) in
        ap (λ (k : ℕ). take k xs) same
    go false t =
        let h = leb-false n (length xs) t in
        take_all (min n (length xs)) xs (omega arith) ∙ sym (take_all n xs (omega arith))

-- a code of three letters is C where C has three, and the same; and one of two letters likewise
pub code-letters : (a b c : ℕ) (C : List ℕ) → bytes_eq (a ∷ b ∷ c ∷ []) C ≡ same_code (a ∷ b ∷ c ∷ []) C
unfolding all
code-letters a b c [] = refl
code-letters a b c (x ∷ []) = and-false _
code-letters a b c (x ∷ y ∷ []) = simp and-false
code-letters a b c (x ∷ y ∷ z ∷ []) = refl
code-letters a b c (x ∷ y ∷ z ∷ w ∷ ws) =
    let long : eqb (length (x ∷ y ∷ z ∷ w ∷ ws)) 3 ≡ false = ne_eqb _ 3 (λ e. omega arith) in
    rw long (simp and-false)

pub pair-letters : (a b : ℕ) (C : List ℕ) → bytes_eq (a ∷ b ∷ []) C ≡ all (eqb (length C) 2 ∷ eqb a (get_or C 0 0) ∷ eqb b (get_or C 1 0) ∷ [])
unfolding all
pair-letters a b [] = refl
pair-letters a b (x ∷ []) = and-false _
pair-letters a b (x ∷ y ∷ []) = refl
pair-letters a b (x ∷ y ∷ z ∷ ws) =
    let long : eqb (length (x ∷ y ∷ z ∷ ws)) 2 ≡ false = ne_eqb _ 2 (λ e. omega arith) in
    rw long (simp and-false)
