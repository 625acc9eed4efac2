-- What a verdict says of the tests that gave it, by a table of their outcomes; what totals and days that are not refused are bounded by.
-- No code gets worse where totals are eased: the factor does not fall, so the bound rises while the score falls.
use Prim.Native.Nat.{ℕ, ◌*◌, ◌≤◌, suc-le-suc}
use mathlib.Core.Bool.{Bool, true, false, cond, not, ◌&&◌, ◌||◌}
use mathlib.Core.List.{[], ◌∷◌}
use mathlib.Core.Path.{◌≡◌, refl}
use native.Mathlib.Nat.{le_refl, le_trans, mul-le-mul, mul-le-mul_left}
use native.Mathlib.Omega.{arith}
use lib.Dec.{leb, ltb}
use borrow.Author.Tests.{not-false, leb-true, le-ltb}
use Rattle.wire.specs.Choose.{choose}
use Rattle.std.specs.Cmp.{first_so, second_so}
use Rattle.wire.proofs.Bools.{cond_le, ltb-leb, range}
use Rattle.wire.proofs.Choose.{chosen, next, done, each}
use Rattle.wire.proofs.Implies.{◌⇒◌, not-⇒, and-⇒, leb-⇒, cond_rises}
use Rattle.rules.specs.Verdict.{version96, not_judged, tier_factor, exceeds, verdict, is_violation, is_severe, limit, fits, is_benchmark, is_refused, decided, days_verdict, number_of}
use Rattle.rules.specs.Constants.{Falling, clamped}
use Rattle.rules.specs.Bounds.{SmallFactors, Bounded}
use Rattle.rules.specs.Month.{is_exempt}
use Rattle.rules.specs.Laws.{read_back}
use Rattle.rules.specs.declared.Rules.{Rules}
use Rattle.rules.specs.declared.Totals.{Totals}
use Rattle.rules.specs.declared.Verdict.{Verdict}

-- the verdict v by its tests: a, raw at or below the first edge; b, the score exceeds; c, it exceeds the severe multiple;
-- p and q, raw at or below the second and the third edge; m, the tier's factor
record ByTests (a b c : Bool) (m : ℕ) (v : Verdict) : Type 0 where
  violation : is_violation v.code ≡ not a && b
  severe : is_severe v.code ≡ not a && (b && c)
  factor : v.factor ≡ cond (not a) m 0

abbrev of_tests : (a b c p q : Bool) → (m : ℕ) → Verdict
of_tests a b c p q m =
    choose
    ((a, not_judged) ∷ (b && c, record { code = 5; factor = m }) ∷ (b, record { code = 4; factor = m }) ∷ [])
    (record { code = choose ((p, 3) ∷ (q, 2) ∷ []) 1; factor = m })

by_tests : (a b c p q : Bool) (m : ℕ) → ByTests a b c m (of_tests a b c p q m)
unfolding choose
by_tests true b c p q m = record { violation = refl; severe = refl; factor = refl }
by_tests false true true p q m = record { violation = refl; severe = refl; factor = refl }
by_tests false true false p q m = record { violation = refl; severe = refl; factor = refl }
by_tests false false c true q m = record { violation = refl; severe = refl; factor = refl }
by_tests false false c false true m = record { violation = refl; severe = refl; factor = refl }
by_tests false false c false false m = record { violation = refl; severe = refl; factor = refl }

module _ (P : Rules) (B d : ℕ) (t : Totals) where
  judged_by : ByTests (leb t.raw (P.edge1 * d)) (exceeds P B d t) (exceeds P (P.severe * B) d t) (tier_factor P d t.raw) (verdict P B d t)
  unfolding verdict
  judged_by = by_tests _ _ _ _ _ _

  pub fails : is_violation (verdict P B d t).code ≡ ltb (P.edge1 * d) t.raw && exceeds P B d t
  fails = rw (ltb-leb t.raw (P.edge1 * d)) judged_by.violation

  pub severe : is_severe (verdict P B d t).code ≡ ltb (P.edge1 * d) t.raw && (exceeds P B d t && exceeds P (P.severe * B) d t)
  severe = rw (ltb-leb t.raw (P.edge1 * d)) judged_by.severe

  pub factor : (verdict P B d t).factor ≡ cond (ltb (P.edge1 * d) t.raw) (tier_factor P d t.raw) 0
  factor = rw (ltb-leb t.raw (P.edge1 * d)) judged_by.factor

  -- an exempt month is one whose sums would not fail
  pub exempt_code : is_exempt P B d t ≡ not (is_violation (verdict P B d t).code)
  exempt_code = rw judged_by.violation (go (leb t.raw (P.edge1 * d)) (exceeds P B d t))
    where
      go : (a b : Bool) → (a || not b) ≡ not (not a && b)
      go true b = refl
      go false b = refl

-- a verdict of version 9.6 by its tests: no pair of code and factor has the number 24, and each can be read back from its number
record ByNumber (v : Verdict) : Type 0 where
  never_24 : number_of v ≡ 24 → ⊥
  pair : read_back (number_of v) ≡ v

by_number : (a b c p q : Bool) → ByNumber (of_tests a b c p q (choose ((p, 3) ∷ (q, 2) ∷ []) 1))
unfolding choose
by_number true b c p q = record { never_24 = λ e. omega arith; pair = refl }
by_number false true true true q = record { never_24 = λ e. omega arith; pair = refl }
by_number false true true false true = record { never_24 = λ e. omega arith; pair = refl }
by_number false true true false false = record { never_24 = λ e. omega arith; pair = refl }
by_number false true false true q = record { never_24 = λ e. omega arith; pair = refl }
by_number false true false false true = record { never_24 = λ e. omega arith; pair = refl }
by_number false true false false false = record { never_24 = λ e. omega arith; pair = refl }
by_number false false c true q = record { never_24 = λ e. omega arith; pair = refl }
by_number false false c false true = record { never_24 = λ e. omega arith; pair = refl }
by_number false false c false false = record { never_24 = λ e. omega arith; pair = refl }

module _ (B d : ℕ) (t : Totals) where
  numbered : ByNumber (verdict version96 B d t)
  unfolding verdict
  numbered =
      let r = t.raw in
      let P = version96 in
      by_number (leb r (20000 * d)) (exceeds P B d t) (exceeds P (6 * B) d t) (leb r (40000 * d)) (leb r (60000 * d))

  pub never_24 : number_of (verdict version96 B d t) ≡ 24 → ⊥
  never_24 = numbered.never_24

  pub pair : read_back (number_of (verdict version96 B d t)) ≡ verdict version96 B d t
  pair = numbered.pair

-- what the test of the limit says
pub record Fitting (d : ℕ) (t : Totals) : Type 0 where
  pub raw : t.raw ≤ limit * d
  pub score : t.score ≤ limit * d
  pub lots : t.lots ≤ limit * d

pub fitting : (d : ℕ) (t : Totals) → fits d t ≡ true → Fitting d t
fitting d t e =
    let h = each (leb t.raw (limit * d) ∷ leb t.score (limit * d) ∷ leb t.lots (limit * d) ∷ []) e in
    record { raw = leb-true _ _ h.0; score = leb-true _ _ h.1.0; lots = leb-true _ _ h.1.1.0 }

-- where nothing is refused there is a verdict
pub days-decided : (P : Rules) (d : ℕ) (t : Totals) (B : ℕ) → d ≤ 31 → fits d t ≡ true → is_benchmark B ≡ true
    → days_verdict P d t B ≡ decided (verdict P B d t)
unfolding days_verdict
days-decided P d t B h f w = chosen (next (le-ltb 31 d h) (next (rw (f, w)) done))

-- what any set judges by is small
small : (P : Rules) → SmallFactors (clamped P)
small P = omega arith

-- what 24 does not refuse keeps every product small
pub bounded : (P : Rules) (d : ℕ) (t : Totals) (B : ℕ) → d ≤ 31 → is_refused d t B ≡ false → Bounded (clamped P) B d t
bounded P d t B h e =
    let both = not-false (fits d t && is_benchmark B) e in
    let f = fitting d t (first_so (fits d t) (is_benchmark B) both) in
    let b = range 1 100000 B (second_so (fits d t) (is_benchmark B) both) in
    record { small = small P; benchmark = b.most; days = h; score = omega (arith, f.score); lots = omega (arith, f.lots) }

-- the totals t' of d' days against t of d: t' keeps to whatever raw edge of a day t kept to
pub record Eased (d' : ℕ) (t' : Totals) (d : ℕ) (t : Totals) : Type 0 where
  pub edges : (e : ℕ) → leb t.raw (e * d) ⇒ leb t'.raw (e * d')
  pub score : t'.score ≤ t.score
  pub lots : t.lots ≤ t'.lots

module _ (P : Rules) (F : Falling P) {d' : ℕ} {t' : Totals} {d : ℕ} {t : Totals} (h : Eased d' t' d t) where
  factor_rises : tier_factor P d t.raw ≤ tier_factor P d' t'.raw
  unfolding choose
  factor_rises =
      cond_rises (h.edges P.edge2) (cond_rises (h.edges P.edge3) (le_refl _) F.third)
      (cond_le (leb t.raw (P.edge3 * d)) F.second (le_trans F.third F.second))

  exceeds_falls : (B : ℕ) → exceeds P B d' t' ⇒ exceeds P B d t
  exceeds_falls B = leb-⇒ (suc-le-suc (mul-le-mul (mul-le-mul_left B factor_rises) h.lots)) (mul-le-mul_left 100 h.score)

  pub violation_falls : (B : ℕ) → is_violation (verdict P B d' t').code ⇒ is_violation (verdict P B d t).code
  violation_falls B =
      rw ((judged_by P B d' t').violation, (judged_by P B d t).violation)
      (and-⇒ (not-⇒ (h.edges P.edge1)) (exceeds_falls B))

  pub severe_falls : (B : ℕ) → is_severe (verdict P B d' t').code ⇒ is_severe (verdict P B d t).code
  severe_falls B =
      rw ((judged_by P B d' t').severe, (judged_by P B d t).severe)
      (and-⇒ (not-⇒ (h.edges P.edge1)) (and-⇒ (exceeds_falls B) (exceeds_falls (P.severe * B))))
