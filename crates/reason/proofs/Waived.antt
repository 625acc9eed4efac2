-- The automatic lines of a grouping are the first that were left in it, as many as there are waivers; so where as many were left before a line, all of
-- them stand before it.
use Prim.Native.Nat.{ℕ, zero, suc, ◌≤◌, ◌<◌, min}
use mathlib.Core.Bool.{Bool, true, false, cond, not, ◌&&◌, false≢true}
use mathlib.Core.Path.{◌≡◌, refl, sym, ap, ◌∙◌}
use native.Mathlib.Omega.{arith}
use lib.Dec.{eqb, ltb}
use borrow.Author.Tests.{eqb-true, ltb-true, ltb-false}
use Rattle.std.specs.Prelude.{Some, None}
use Rattle.wire.specs.Choose.{last_below}
use Rattle.wire.specs.Sums.{sum, count}
use Rattle.wire.proofs.Counts.{Last, last, count_before, count_order, let_through}
use Rattle.rules.specs.Marks.{Judged, left, mark}
use Rattle.rules.specs.declared.Rules.{Rules}
use Rattle.rules.proofs.Marks.{mark_automatic}
use Rattle.reason.specs.Beside.{is_automatic}

-- the automatic lines of a grouping are those left before which fewer than the waivers were left
module _ (P : Rules) (j : Judged) (e : ℕ) where
  abbrev pub waived : (k : ℕ) → Bool
  waived = is_automatic j.grouping (mark P j) e

  waived_by : (k : ℕ) → waived k ≡ left j e k && ltb (count k (left j e)) P.waivers
  waived_by k = go (eqb (j.grouping k) e) refl
    where
      and_more : (a b w : Bool) → (a && (b && w)) ≡ ((a && b) && w)
      and_more true b w = refl
      and_more false b w = refl

      go : (g : Bool) → eqb (j.grouping k) e ≡ g
          → (g && eqb (mark P j k) 4) ≡ ((g && (eqb (j.verdict k).code 4 && not (j.exempt k))) && ltb (count k (left j e)) P.waivers)
      go true q =
          let same : j.grouping k ≡ e = eqb-true (j.grouping k) e q in
          mark_automatic P j k
          ∙ ap (λ (x : ℕ). eqb (j.verdict k).code 4 && (not (j.exempt k) && ltb (count k (left j x)) P.waivers)) same
          ∙ and_more (eqb (j.verdict k).code 4) (not (j.exempt k)) (ltb (count k (left j e)) P.waivers)
      go false q = refl

  pub waived-count : (n : ℕ) → count n waived ≡ min (count n (left j e)) P.waivers
  waived-count n = let_through P.waivers (left j e) waived n (λ k l. waived_by k)

-- where none is counted there is none
pub none_counted : (n : ℕ) (q : ℕ → Bool) → count n q ≡ 0 → (k : ℕ) → k < n → q k ≡ true → ⊥
none_counted n q z k h e = omega (arith, count_before n q k h e)

pub none_last : (n : ℕ) (q : ℕ → Bool) → count n q ≡ 0 → last_below n q ≡ None
unfolding last_below sum
none_last zero q z = refl
none_last (suc n) q z = go (q n) refl (none_last n q)
  where
    go : (b : Bool) → q n ≡ b → (count n q ≡ 0 → last_below n q ≡ None) → cond (q n) (Some n) (last_below n q) ≡ None
    go true e below = absurd (omega (arith, rw e at z))
    go false e below = rw e (below (omega (arith, rw e at z)))

-- no other stands after the earlier of the last two
pub after_first : (n : ℕ) (q : ℕ → Bool) {a b : ℕ} → Last b q a → Last n q b → (k : ℕ) → a < k → k < n → q k ≡ true → k ≡ b
after_first n q {a} {b} la lb k l h e = go (ltb k b) (ltb b k) refl refl
  where
    go : (x y : Bool) → ltb k b ≡ x → ltb b k ≡ y → k ≡ b
    go true y p r = absurd (false≢true (sym (la.after k l (ltb-true k b p)) ∙ e))
    go false true p r = absurd (false≢true (sym (lb.after k (ltb-true b k r) h) ∙ e))
    go false false p r = omega (arith, ltb-false k b p, ltb-false b k r)

-- a billed place i of n, before which as many automatic lines stand as in all
module _ (n : ℕ) (q : ℕ → Bool) (i : ℕ) (all : count i q ≡ count n q) where
  -- the last of them is before i
  last_before : {k : ℕ} → Last n q k → k < i
  last_before {k} l = count_order q k i (omega (arith, l.number, all))

  -- where there are two or more, the last two
  pub record Two : Type 0 where
    pub a : ℕ
    pub b : ℕ
    pub last_is : Last n q b
    pub first_is : Last b q a
    pub before : b < i

  pub two_before : 2 ≤ count n q → Two
  two_before h =
      let (b, lb) = last n q (omega arith) in
      let (a, la) = last b q (omega (arith, lb.number)) in
      record { a = a; b = b; last_is = lb; first_is = la; before = last_before lb }

  -- where there is one
  pub record One : Type 0 where
    pub a : ℕ
    pub last_is : Last n q a
    pub none_before : last_below a q ≡ None
    pub before : a < i
    pub only : (k : ℕ) → k < n → q k ≡ true → k ≡ a

  pub one_before : count n q ≡ 1 → One
  one_before h =
      let (a, l) = last n q (omega arith) in
      let none : count a q ≡ 0 = omega (arith, l.number) in
      record {
        a = a;
        last_is = l;
        none_before = none_last a q none;
        before = last_before l;
        only = λ k inside e. by k inside e (ltb k a) (ltb a k) refl refl l none;
      }
    where
      by : {a : ℕ} (k : ℕ) → k < n → q k ≡ true → (x y : Bool) → ltb k a ≡ x → ltb a k ≡ y → Last n q a → count a q ≡ 0 → k ≡ a
      by {a} k inside e true y s t l z = absurd (none_counted a q z k (ltb-true k a s) e)
      by {a} k inside e false true s t l z = absurd (false≢true (sym (l.after k (ltb-true a k t) inside) ∙ e))
      by {a} k inside e false false s t l z = omega (arith, ltb-false k a s, ltb-false a k t)
