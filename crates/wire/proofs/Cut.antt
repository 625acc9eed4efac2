-- Laws of a run of records: what its first record takes, and the cut one record at a time.
use Prim.Native.Nat.{ℕ, zero, suc, ◌≤◌, ◌<◌, min}
use mathlib.Core.Bool.{Bool, true, false, cond, and-false}
use mathlib.Core.List.{List, [], ◌∷◌, map}
use mathlib.Core.Path.{◌≡◌, refl, sym, ap}
use native.Mathlib.Nat.{le_refl}
use native.Mathlib.Omega.{arith}
use lib.Dec.{eqb, leb}
use lib.ListN.{length, take, drop, length-drop}
use borrow.Author.Tests.{eqb-false, ne_eqb, le-leb, lt-leb, leb-true}
use Rattle.wire.specs.Bytes.{are_bytes, u16_at}
use Rattle.wire.specs.Choose.{all, within}
use Rattle.wire.specs.Cut.{first_length, cut_in, cut}
use Rattle.std.specs.Cmp.{first_so, second_so}
use Rattle.wire.proofs.Bytes.{bytes_take, bytes_drop}

module _ (S : List ℕ) where
  pub first_under : u16_at S 0 < 4 → first_length S ≡ length S
  unfolding first_length
  first_under h = rw (lt-leb 4 (u16_at S 0) h)

  pub first_past : length S < u16_at S 0 → first_length S ≡ length S
  unfolding first_length
  first_past h = rw (lt-leb (u16_at S 0) (length S) h, and-false)

  pub first_field : 4 ≤ u16_at S 0 → u16_at S 0 ≤ length S → first_length S ≡ u16_at S 0
  unfolding first_length
  first_field h k = rw (le-leb 4 (u16_at S 0) h, le-leb (u16_at S 0) (length S) k)

  pub first_least : 4 ≤ u16_at S 0 → first_length S ≡ min (u16_at S 0) (length S)
  first_least h = grind (arith, first_field h, first_past)

  -- a record has a byte, and lies within the run
  pub record FirstIn : Type 0 where
    pub some : 0 < length S → 0 < first_length S
    pub most : first_length S ≤ length S

  pub first_in : FirstIn
  unfolding first_length
  first_in = go (within 4 (length S) (u16_at S 0)) refl
    where
      go : (b : Bool) → within 4 (length S) (u16_at S 0) ≡ b → FirstIn
      go true e =
          let h = leb-true 4 (u16_at S 0) (first_so (leb 4 (u16_at S 0)) (leb (u16_at S 0) (length S)) e) in
          let k = leb-true (u16_at S 0) (length S) (second_so (leb 4 (u16_at S 0)) (leb (u16_at S 0) (length S)) e) in
          record { some = λ l. rw e (omega (arith, h)); most = rw e k }
      go false e = record { some = λ l. rw e l; most = rw e (le_refl _) }

-- no bytes, no records
pub cut-none : (fuel : ℕ) (S : List ℕ) → length S ≡ 0 → cut_in fuel S ≡ []
unfolding cut_in
cut-none zero S e = refl
cut-none (suc fuel) S e = rw e

-- as much fuel as bytes is enough
fuel_any : (m n : ℕ) (S : List ℕ) → length S ≤ m → length S ≤ n → cut_in m S ≡ cut_in n S
unfolding cut_in
fuel_any zero n S h k = sym (cut-none n S (omega arith))
fuel_any (suc m) zero S h k = cut-none (suc m) S (omega arith)
fuel_any (suc m) (suc n) S h k = go (eqb (length S) 0) refl (fuel_any m n (drop (first_length S) S))
  where
    go : (b : Bool) → eqb (length S) 0 ≡ b
        → (length (drop (first_length S) S) ≤ m → length (drop (first_length S) S) ≤ n
        → cut_in m (drop (first_length S) S) ≡ cut_in n (drop (first_length S) S))
        → cut_in (suc m) S ≡ cut_in (suc n) S
    go true e rest = rw e
    go false e rest =
        let taken = (first_in S).some (omega (arith, eqb-false (length S) 0 e)) in
        let left = length-drop (first_length S) S in
        rw e (ap (λ rs. take (first_length S) S ∷ rs) (rest (omega (arith, taken, left)) (omega (arith, taken, left))))

-- the first record, then the others
pub cut-next : (S : List ℕ) → 0 < length S → cut S ≡ take (first_length S) S ∷ cut (drop (first_length S) S)
unfolding cut_in
cut-next S h = go (length S) refl
  where
    go : (n : ℕ) → length S ≡ n → cut_in n S ≡ take (first_length S) S ∷ cut (drop (first_length S) S)
    go zero e = absurd (omega arith)
    go (suc n) e =
        let taken = (first_in S).some h in
        let left = length-drop (first_length S) S in
        let rest = drop (first_length S) S in
        rw (ne_eqb (length S) 0 (λ z. omega arith))
        (ap (λ rs. take (first_length S) S ∷ rs) (fuel_any n (length rest) rest (omega (arith, taken, left)) (le_refl _)))

-- what an iterator over a run knows of it: it is empty, or it was parted behind its first record
pub records_none : (S : List ℕ) → length S ≡ 0 → cut S ≡ []
records_none S e = cut-none (length S) S e

pub first_most : (S : List ℕ) → first_length S ≤ length S
first_most S = (first_in S).most

pub records_more : (S R T : List ℕ) → 0 < length S → R ≡ take (first_length S) S → T ≡ drop (first_length S) S → cut S ≡ R ∷ cut T
records_more S R T h e f = rw (e, f) (cut-next S h)

-- a run of bytes has records of bytes
pub cut-bytes : (fuel : ℕ) (S : List ℕ) → are_bytes S ≡ true → all (map are_bytes (cut_in fuel S)) ≡ true
unfolding cut_in all
cut-bytes zero S e = refl
cut-bytes (suc fuel) S e = go (eqb (length S) 0) (cut-bytes fuel (drop (first_length S) S) (bytes_drop (first_length S) S e))
  where
    n : ℕ
    n = first_length S

    go : (b : Bool) → all (map are_bytes (cut_in fuel (drop n S))) ≡ true → all (map are_bytes (cond b [] (take n S ∷ cut_in fuel (drop n S)))) ≡ true
    go true h = refl
    go false h = rw (bytes_take n S e) h
