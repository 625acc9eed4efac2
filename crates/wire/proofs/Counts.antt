-- Places by their number among those at which a test holds: the last of them, the one with a number, and how many a limit lets through.
use Prim.Native.Nat.{ℕ, zero, suc, ◌+◌, ◌-◌, ◌≤◌, ◌<◌, min}
use mathlib.Core.Bool.{Bool, true, false, cond, ◌&&◌}
use mathlib.Core.Logic.{⊎_elim}
use mathlib.Core.Path.{◌≡◌, refl, sym, ap, ◌∙◌}
use native.Mathlib.Nat.{eq-or-lt_of_le, le_refl, add-zero, add-suc}
use native.Mathlib.Numerals.{add-one}
use native.Mathlib.Omega.{arith}
use lib.Dec.{ltb}
use borrow.Author.Tests.{ltb-true, ltb-false}
use Rattle.std.specs.Prelude.{Some, None}
use Rattle.wire.specs.Choose.{last_below}
use Rattle.wire.specs.Sums.{bit, sum, count}
use Rattle.wire.proofs.Sums.{sum_more}

pub last-none : (p : ℕ → Bool) → last_below 0 p ≡ None
unfolding last_below
last-none p = refl

pub last_more : (n : ℕ) (p : ℕ → Bool) → last_below (n + 1) p ≡ cond (p n) (Some n) (last_below n p)
unfolding last_below
last_more n p = rw add-one

-- k is the last of n places at which p holds
pub record Last (n : ℕ) (p : ℕ → Bool) (k : ℕ) : Type 0 where
  pub is : last_below n p ≡ Some k
  pub inside : k < n
  pub holds : p k ≡ true
  pub after : (i : ℕ) → k < i → i < n → p i ≡ false
  pub number : count n p ≡ count k p + 1

pub last : (n : ℕ) (p : ℕ → Bool) → 0 < count n p → (k : ℕ) × Last n p k
unfolding last_below sum
last zero p h = absurd (omega arith)
last (suc n) p h = go (p n) refl (last n p)
  where
    more : p n ≡ false → (k : ℕ) × Last n p k → (k : ℕ) × Last (suc n) p k
    more e (k, l) = (
      k,
      record {
        is = rw e l.is;
        inside = omega (arith, l.inside);
        holds = l.holds;
        after = λ i a b. ⊎_elim (λ (q : i ≡ n). rw q e) (λ (m : i < n). l.after i a m) (eq-or-lt_of_le (omega arith));
        number = rw e (omega (arith, l.number));
      },
    )

    go : (b : Bool) → p n ≡ b → (0 < count n p → (k : ℕ) × Last n p k) → (k : ℕ) × Last (suc n) p k
    go true e below = (n, record { is = rw e refl; inside = omega arith; holds = e; after = λ i a b. absurd (omega arith); number = rw e refl })
    go false e below = more e (below (omega (arith, rw e at h)))

-- a place that was found is below n
pub last_inside : (n : ℕ) (p : ℕ → Bool) (k : ℕ) → last_below n p ≡ Some k → k < n
unfolding last_below
last_inside zero p k e = absurd cc
last_inside (suc n) p k e = go (p n) e (last_inside n p k)
  where
    go : (b : Bool) → cond b (Some n) (last_below n p) ≡ Some k → (last_below n p ≡ Some k → k < n) → k < suc n
    go true e below = let z : n ≡ k = cc in omega arith
    go false e below = omega (arith, below e)

-- tests that agree below n have the same last place
pub last_same : (n : ℕ) (p q : ℕ → Bool) → ((i : ℕ) → i < n → p i ≡ q i) → last_below n p ≡ last_below n q
unfolding last_below
last_same zero p q h = refl
last_same (suc n) p q h = rw (h n (omega arith), last_same n p q (λ i l. h i (omega arith)))

-- a count rises with the places
pub count_rises : (n d : ℕ) (p : ℕ → Bool) → count n p ≤ count (n + d) p
unfolding sum
count_rises n zero p = rw add-zero (le_refl _)
count_rises n (suc d) p = rw add-suc (omega (arith, count_rises n d p))

-- a place at which the test holds is one more
pub count_before : (n : ℕ) (p : ℕ → Bool) (i : ℕ) → i < n → p i ≡ true → count i p < count n p
count_before n p i h e =
    let rise = count_rises (i + 1) (n - (i + 1)) p in
    let there : i + 1 + (n - (i + 1)) ≡ n = omega arith in
    let more : count (i + 1) p ≡ count i p + 1 = sum_more i (λ k. bit (p k)) ∙ ap (λ b. count i p + bit b) e in
    omega (arith, rw there at rise, more)

-- where fewer are counted the place is earlier
pub count_order : (p : ℕ → Bool) (a b : ℕ) → count a p < count b p → a < b
count_order p a b h = go (ltb a b) refl
  where
    go : (t : Bool) → ltb a b ≡ t → a < b
    go true t = ltb-true a b t
    go false t =
        let le = ltb-false a b t in
        let rise = count_rises b (a - b) p in
        let there : b + (a - b) ≡ a = omega arith in
        absurd (omega (arith, rw there at rise, h))

-- the place before which p holds k times
pub record Numbered (n : ℕ) (p : ℕ → Bool) (k i : ℕ) : Type 0 where
  pub inside : i < n
  pub holds : p i ≡ true
  pub number : count i p ≡ k

pub numbered : (n : ℕ) (p : ℕ → Bool) (k : ℕ) → k < count n p → (i : ℕ) × Numbered n p k i
unfolding sum
numbered zero p k h = absurd (omega arith)
numbered (suc n) p k h = go (p n) refl (numbered n p k)
  where
    more : (i : ℕ) × Numbered n p k i → (i : ℕ) × Numbered (suc n) p k i
    more (i, m) = (i, record { inside = omega (arith, m.inside); holds = m.holds; number = m.number })

    here : p n ≡ true → (count n p ≡ k) → (i : ℕ) × Numbered (suc n) p k i
    here e q = (n, record { inside = omega arith; holds = e; number = q })

    go : (b : Bool) → p n ≡ b → (k < count n p → (i : ℕ) × Numbered n p k i) → (i : ℕ) × Numbered (suc n) p k i
    go true e below = ⊎_elim (λ (q : k ≡ count n p). here e (sym q)) (λ (l : k < count n p). more (below l)) (eq-or-lt_of_le (omega (arith, rw e at h)))
    go false e below = more (below (omega (arith, rw e at h)))

-- a test that lets through the first w places at which p holds
module _ (w : ℕ) (p q : ℕ → Bool) where
  one : (a f : Bool) (c m : ℕ) → ltb c w ≡ f → m ≡ min c w → m + bit (a && f) ≡ min (c + bit a) w
  one true true c m e h = omega (arith, ltb-true c w e)
  one true false c m e h = omega (arith, ltb-false c w e)
  one false f c m e h = omega arith

  pub let_through : (n : ℕ) → ((i : ℕ) → i < n → q i ≡ p i && ltb (count i p) w) → count n q ≡ min (count n p) w
  unfolding sum
  let_through zero h = omega arith
  let_through (suc n) h = rw (h n (omega arith)) (one (p n) (ltb (count n p) w) (count n p) (count n q) refl (let_through n (λ i l. h i (omega arith))))
