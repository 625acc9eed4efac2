-- What one place's mark says of its code, by a table of the tests that gave the mark. A place of the grouping e has the waivers of e, since its
-- own grouping is e; a grant names it or not; and a mark goes by the places up to its own, so judgements that agree there agree on it.
use Prim.Native.Nat.{ℕ, ◌+◌, ◌-◌, ◌<◌}
use mathlib.Core.Bool.{Bool, true, false, cond, not, ◌&&◌, ◌||◌, false≢true}
use mathlib.Core.List.{[], ◌∷◌}
use mathlib.Core.Path.{◌≡◌, refl, sym, ap, ◌∙◌}
use native.Mathlib.Nat.{lt_trans}
use native.Mathlib.Omega.{arith}
use lib.Dec.{ltb, eqb}
use borrow.Author.Tests.{eqb-true}
use Rattle.wire.specs.Choose.{choose}
use Rattle.wire.specs.Sums.{bit, count}
use Rattle.wire.proofs.Sums.{sum_same}
use Rattle.rules.specs.Verdict.{not_judged, is_violation, is_severe}
use Rattle.rules.specs.Marks.{Judged, left, is_billed, granted_mark, mark_without_grants, mark}
use Rattle.rules.specs.declared.Rules.{Rules}
use Rattle.rules.specs.declared.Verdict.{Verdict}

-- a code is 4, 5 or neither: f and s are those tests
pub data Kind : (f s : Bool) → Type 0 where
  none : Kind false false
  ordinary : Kind true false
  severe : Kind false true

pub kind : (n : ℕ) → Kind (eqb n 4) (eqb n 5)
kind n = go (eqb n 4) (eqb n 5) refl refl
  where
    go : (f s : Bool) → eqb n 4 ≡ f → eqb n 5 ≡ s → Kind f s
    go false false p q = none
    go true false p q = ordinary
    go false true p q = severe
    go true true p q = absurd (omega (arith, eqb-true n 4 p, eqb-true n 5 q))

-- the mark m by its tests, and m₀ before grants: those of the code; x, its group is exempt; w, a waiver is free; g, a grant names it
record Given (f s x w g : Bool) (m₀ m : ℕ) : Type 0 where
  none : eqb m 0 ≡ not (f || s)
  one : bit (f || s) ≡ bit (eqb m 3) + bit (eqb m 4) + bit (eqb m 5) + bit (is_billed m)
  bill : bit (is_billed m) ≡ cond g 0 (bit s + (bit (f && not x) - bit w))
  monthly : eqb m 3 ≡ eqb m₀ 3
  automatic : eqb m 4 ≡ eqb m₀ 4
  granted : eqb m 5 ≡ g && is_billed m₀
  -- which tests give each mark
  is_1 : eqb m 1 ≡ s && not g
  is_2 : eqb m 2 ≡ f && (not x && (not w && not g))
  is_3 : eqb m 3 ≡ f && x
  is_4 : eqb m 4 ≡ f && (not x && w)

abbrev by_tests : (f s x w : Bool) → ℕ
by_tests f s x w = choose ((not (f || s), 0) ∷ (s, 1) ∷ (x, 3) ∷ (w, 4) ∷ []) 2

given : {f s : Bool} → Kind f s → (x w g : Bool) → Given f s x w g (by_tests f s x w) (granted_mark g (by_tests f s x w))
unfolding choose
given none x w true = record { none = refl; one = refl; bill = refl; monthly = refl; automatic = refl; granted = refl; is_1 = refl; is_2 = refl; is_3 = refl; is_4 = refl }
given none x w false = record { none = refl; one = refl; bill = omega arith; monthly = refl; automatic = refl; granted = refl; is_1 = refl; is_2 = refl; is_3 = refl; is_4 = refl }
given severe x w true = record { none = refl; one = refl; bill = refl; monthly = refl; automatic = refl; granted = refl; is_1 = refl; is_2 = refl; is_3 = refl; is_4 = refl }
given severe x w false = record { none = refl; one = refl; bill = omega arith; monthly = refl; automatic = refl; granted = refl; is_1 = refl; is_2 = refl; is_3 = refl; is_4 = refl }
given ordinary true w true = record { none = refl; one = refl; bill = refl; monthly = refl; automatic = refl; granted = refl; is_1 = refl; is_2 = refl; is_3 = refl; is_4 = refl }
given ordinary true w false = record { none = refl; one = refl; bill = omega arith; monthly = refl; automatic = refl; granted = refl; is_1 = refl; is_2 = refl; is_3 = refl; is_4 = refl }
given ordinary false true true = record { none = refl; one = refl; bill = refl; monthly = refl; automatic = refl; granted = refl; is_1 = refl; is_2 = refl; is_3 = refl; is_4 = refl }
given ordinary false true false = record { none = refl; one = refl; bill = refl; monthly = refl; automatic = refl; granted = refl; is_1 = refl; is_2 = refl; is_3 = refl; is_4 = refl }
given ordinary false false true = record { none = refl; one = refl; bill = refl; monthly = refl; automatic = refl; granted = refl; is_1 = refl; is_2 = refl; is_3 = refl; is_4 = refl }
given ordinary false false false = record { none = refl; one = refl; bill = refl; monthly = refl; automatic = refl; granted = refl; is_1 = refl; is_2 = refl; is_3 = refl; is_4 = refl }

-- a place whose code passes a test that 0 does not is listed and in effect (b)
pub on_place : (test : ℕ → Bool) → test 0 ≡ false → (b : Bool) (v : Verdict) → test (cond b v not_judged).code ≡ true → b ≡ true
on_place test z true v e = refl
on_place test z false v e = absurd (false≢true (sym z ∙ e))

-- a severe violation of the grouping e, and a waiver of it is free
abbrev pub severe_in : Judged → (e i : ℕ) → Bool
severe_in j e i = eqb (j.grouping i) e && is_severe (j.verdict i).code

abbrev pub free : Rules → Judged → (e i : ℕ) → Bool
free P j e i = ltb (count i (left j e)) P.waivers

module _ (P : Rules) (j : Judged) (i : ℕ) where
  marked_by : Given (eqb (j.verdict i).code 4) (is_severe (j.verdict i).code) (j.exempt i) (free P j (j.grouping i) i) (j.named i) (mark_without_grants P j i) (mark P j i)
  marked_by = given (kind (j.verdict i).code) (j.exempt i) _ (j.named i)

  pub frees_none : (eqb (mark P j i) 3 ≡ eqb (mark_without_grants P j i) 3) × (eqb (mark P j i) 4 ≡ eqb (mark_without_grants P j i) 4)
  frees_none = (marked_by.monthly, marked_by.automatic)

  -- mark 5 stands where a grant names a place that cost
  pub mark_granted : eqb (mark P j i) 5 ≡ j.named i && is_billed (mark_without_grants P j i)
  mark_granted = marked_by.granted

  pub mark-none : eqb (mark P j i) 0 ≡ not (is_violation (j.verdict i).code)
  mark-none = marked_by.none

  -- each of the first four marks by its tests
  pub mark_severe : eqb (mark P j i) 1 ≡ is_severe (j.verdict i).code && not (j.named i)
  mark_severe = marked_by.is_1

  pub mark_billed : eqb (mark P j i) 2 ≡ eqb (j.verdict i).code 4 && (not (j.exempt i) && (not (free P j (j.grouping i) i) && not (j.named i)))
  mark_billed = marked_by.is_2

  pub mark_monthly : eqb (mark P j i) 3 ≡ eqb (j.verdict i).code 4 && j.exempt i
  mark_monthly = marked_by.is_3

  pub mark_automatic : eqb (mark P j i) 4 ≡ eqb (j.verdict i).code 4 && (not (j.exempt i) && free P j (j.grouping i) i)
  mark_automatic = marked_by.is_4

  module _ (e : ℕ) where
    -- one violation of the grouping e has one mark
    pub mark_one :
        bit (eqb (j.grouping i) e && is_violation (j.verdict i).code)
        ≡ bit (eqb (j.grouping i) e && eqb (mark P j i) 3)
        + bit (eqb (j.grouping i) e && eqb (mark P j i) 4)
        + bit (eqb (j.grouping i) e && eqb (mark P j i) 5)
        + bit (eqb (j.grouping i) e && is_billed (mark P j i))
    mark_one = go (eqb (j.grouping i) e)
      where
        go : (g : Bool) → bit (g && is_violation (j.verdict i).code)
            ≡ bit (g && eqb (mark P j i) 3) + bit (g && eqb (mark P j i) 4) + bit (g && eqb (mark P j i) 5) + bit (g && is_billed (mark P j i))
        go true = marked_by.one
        go false = refl

    -- it is billed where no grant names it and it is severe, or left with no waiver free
    pub mark_bill : bit (eqb (j.grouping i) e && is_billed (mark P j i)) ≡ cond (j.named i) 0 (bit (severe_in j e i) + (bit (left j e i) - bit (free P j e i)))
    mark_bill = go (eqb (j.grouping i) e) refl
      where
        none : (n : Bool) → 0 ≡ cond n 0 (0 + (0 - bit (free P j e i)))
        none true = refl
        none false = omega arith

        go : (g : Bool) → eqb (j.grouping i) e ≡ g
            → bit (g && is_billed (mark P j i))
            ≡ cond (j.named i) 0 (bit (g && is_severe (j.verdict i).code) + (bit (g && (eqb (j.verdict i).code 4 && not (j.exempt i))) - bit (free P j e i)))
        go true q = rw (← eqb-true (j.grouping i) e q) marked_by.bill
        go false q = none (j.named i)

-- two judgements that say the same of a place
pub record Same (j k : Judged) (i : ℕ) : Type 0 where
  pub code : (j.verdict i).code ≡ (k.verdict i).code
  pub exempt : j.exempt i ≡ k.exempt i
  pub grouping : j.grouping i ≡ k.grouping i
  pub named : j.named i ≡ k.named i

module _ (j k : Judged) (n : ℕ) (h : (i : ℕ) → i < n → Same j k i) where
  pub left_same : (e i : ℕ) → i < n → left j e i ≡ left k e i
  left_same e i l = rw ((h i l).code, (h i l).exempt, (h i l).grouping)

  pub mark_same : (P : Rules) (i : ℕ) → i < n → mark P j i ≡ mark P k i
  mark_same P i l =
      let e : (e : ℕ) → count i (left j e) ≡ count i (left k e) = λ e. sum_same i _ _ (λ m q. ap bit (left_same e m (lt_trans q l))) in
      rw (e (j.grouping i), (h i l).code, (h i l).exempt, (h i l).grouping, (h i l).named)
