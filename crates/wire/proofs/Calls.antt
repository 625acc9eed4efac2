-- What from_fn made, and what any found in a range, by a closure that each call leaves as it was.
use Prim.Native.Nat.{ℕ, zero, suc, ◌+◌, ◌<◌}
use mathlib.Core.List.{List, [], ◌∷◌}
use mathlib.Core.Path.{◌≡◌, sym, subst, ◌∙◌}
use native.Mathlib.Omega.{arith}
use lib.ListN.{length, get_or}
use denote.Param.Members.{Mut, Called}
use Rattle.std.proofs.lemmas.List.{ext_get_or}
use Rattle.std.specs.Array.{IsFromFnResultFrom, IsFromFnResult}
use Rattle.wire.specs.Lists.{table}
use Rattle.wire.proofs.Lists.{joined-none, length-table, table_at}
use mathlib.Core.Bool.{Bool, true, false}
use Rattle.std.specs.Prelude.{Option, MatchOption}
use Rattle.std.specs.declared.ops.Range.{Range}
use Rattle.std.specs.Bool.{MatchBool}
use Rattle.std.specs.Iterator.{YieldsThen}
use Rattle.std.specs.List.{FoldsTo, range_with_len, AllWithin, HoldsAt}
use Rattle.std.proofs.iter.Yields.{nat_range_steps}
use Rattle.std.proofs.lemmas.Iterator.{YieldsList-from_range, cases_from_any}
use Rattle.std.proofs.lemmas.List.FromFn.{length-range_with_len, get_or-range_with_len}
use Rattle.wire.specs.Choose.{some}
use Rattle.wire.proofs.Choose.{some_at, none_some}

module _ {F A : Type 0} (g : Mut F (ℕ × Unit {0}) A) (f : F) (v : ℕ → A) where
  -- a list of the items v is their table
  table_ext : (xs : List A) (n : ℕ) → length xs ≡ n → ((k : ℕ) (d : A) → k < n → get_or xs k d ≡ v k) → xs ≡ table n v
  table_ext [] n e h = let z : n ≡ 0 = omega arith in rw (z, joined-none)
  table_ext (x ∷ xs) n e h =
      ext_get_or x (x ∷ xs) (table n v) (e ∙ sym (length-table v n)) (λ k l. h k x (omega arith) ∙ sym (table_at v n k x (omega arith)))

  -- each call gives v at its index
  abbrev Gives : (n : ℕ) → Type 0
  Gives n = (i : ℕ) (y : A) (q : F) → i < n → Called g f (i, tt) y q → (y ≡ v i) × (q ≡ f)

  item : (xs : List A) (m : ℕ) → Gives m → (i n : ℕ) → i + n ≡ m → IsFromFnResultFrom g f xs i n → (k : ℕ) (d : A) → k < n → get_or xs (i + k) d ≡ v (i + k)
  item xs m h i zero e c k d l = absurd (omega arith)
  item xs m h i (suc n) e (q, y, is, call, cs) zero d l =
      let z : i + 0 ≡ i = omega arith in
      let p = h i y q (omega arith) call in
      rw z (is.1 d ∙ p.0)
  item xs m h i (suc n) e (q, y, is, call, cs) (suc k) d l =
      let z : i + suc k ≡ i + 1 + k = omega arith in
      let p = h i y q (omega arith) call in
      rw z (item xs m h (i + 1) n (omega arith) (subst (λ p. IsFromFnResultFrom g p xs (i + 1) n) p.1 cs) k d (omega arith))

  pub made : (xs : List A) (n : ℕ) → Gives n → IsFromFnResult g f xs n → xs ≡ table n v
  made xs n h r =
      table_ext xs n r.long (λ k d l. let z : k ≡ 0 + k = omega arith in rw z (item xs n h 0 n (omega arith) r.each k d l))

-- what a range's any found, where each call answers the test p
module _ {F : Type 0} {g : Mut F (ℕ × Unit {0}) Bool} (s u : Range ℕ) (f : F) (r : Bool) (n : ℕ) (p : ℕ → Bool) where
  pub some_found : s ≡ record { start = 0; end = n }
      → (xs : List ℕ) × (o : Option ℕ) × (j : F) × YieldsThen nat_range_steps s xs o u × FoldsTo (λ a x b. Called g a (x, tt) false b) f xs j
      × MatchOption o (r ≡ false) (λ x. (r ≡ true) × ((h : F) × Called g j (x, tt) true h))
      → ((x : ℕ) (b : Bool) (q : F) → Called g f (x, tt) b q → (b ≡ p x) × (q ≡ f)) → r ≡ some n p
  some_found e ran says =
      told r (cases_from_any u f r (λ x. p x ≡ true) (λ x. p x ≡ false) ran (YieldsList-from_range 0 n n e (omega arith))
      (λ x q k. sym (says x true q k).0)
      (λ x q k. ((says x false q k).1, sym (says x false q k).0)))
    where
      told : (b : Bool)
          → MatchBool b ((k : ℕ) × (k < length (range_with_len 0 n)) × HoldsAt (λ x. p x ≡ true) (range_with_len 0 n) k)
          (AllWithin (λ x. p x ≡ false) (range_with_len 0 n) 0 (length (range_with_len 0 n)))
          → b ≡ some n p
      told true (k, l, h) =
          let z : get_or (range_with_len 0 n) k 0 ≡ k = get_or-range_with_len 0 n k 0 (rw length-range_with_len at l) ∙ omega arith in
          sym (some_at n p k (rw length-range_with_len at l) (rw z at (h 0)))
      told false h = sym (none_some n p (λ i l.
          let z : get_or (range_with_len 0 n) i 0 ≡ i = get_or-range_with_len 0 n i 0 l ∙ omega arith in
          rw z at (h i 0 (omega arith) (rw length-range_with_len l))))
