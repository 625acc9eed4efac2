-- A stored day comes behind the days held; where twenty are held the oldest, which is the first of them, is left out.
use Rattle.std.proofs.Common.{ℕ, ◌+◌, ◌-◌, ◌%◌, ◌<◌, true, false, List, [], ◌∷◌, ◌++◌, ◌≡◌, arith, get_or-set_same, get_or-set_other}
use mathlib.Core.Path.{refl, ap, ap₂, ◌∙◌}
use borrow.Author.Tests.{eqb-true, eqb-false}
use Rattle.wire.specs.Lists.{table}
use Rattle.wire.proofs.Lists.{joined_more, joined_same}
use Rattle.rules.specs.declared.Totals.{Totals}
use Rattle.window.specs.Window.{most_days, place_of, day_at, held_day, held, is_full, stored}
use Rattle.window.specs.Laws.{HasPlaces}
use Rattle.window.specs.Parts.{Placed}
use Rattle.window.specs.declared.Window.{Window}
use Rattle.window.proofs.Lists.{table_first}

abbrev one : Totals → List Totals
one x = x ∷ []

module _ (w : Window) where
  -- the oldest of twenty days held, and the others
  abbrev pub oldest : Totals
  oldest = held_day w 0

  abbrev pub later : List Totals
  later = table (most_days - 1) (λ i. held_day w (i + 1))

  pub held_full : is_full w ≡ true → held w ≡ oldest ∷ later
  unfolding held
  held_full e =
      ap (λ (k : ℕ). table k (held_day w)) (eqb-true w.count most_days e)
      ∙ table_first (most_days - 1) (held_day w)

module _ (w : Window) (t : Totals) (placed : Placed w) (places : HasPlaces w) where
  -- at the place that the new day takes it stands, and at any other the day that stood there
  same : day_at (stored w t) (place_of w w.count) ≡ t
  unfolding stored
  same =
      let p = place_of w w.count in
      let h : p < most_days = omega arith in
      rw (get_or-set_same w.raw p t.raw 0 (omega (arith, h, places.raw)), get_or-set_same w.score p t.score 0 (omega (arith, h, places.score)), get_or-set_same w.lots p t.lots 0 (omega (arith, h, places.lots)))
      refl

  other : (q : ℕ) → (q ≡ place_of w w.count → ⊥) → day_at (stored w t) q ≡ day_at w q
  unfolding stored
  other q n =
      let p = place_of w w.count in
      rw (get_or-set_other w.raw p q t.raw 0 n, get_or-set_other w.score p q t.score 0 n, get_or-set_other w.lots p q t.lots 0 n)
      refl

  -- fewer than twenty are held
  pub held_behind : is_full w ≡ false → held (stored w t) ≡ held w ++ t ∷ []
  unfolding held stored
  held_behind e =
      let n = w.count in
      let below : n < most_days = omega (arith, eqb-false n most_days e, placed.count) in
      let counts : (stored w t).count ≡ n + 1 = rw e in
      let starts : (stored w t).oldest ≡ w.oldest = rw e in
      let apart : (i : ℕ) → i < n → place_of w i ≡ place_of w n → ⊥ = λ i h q. omega (arith, q, below, placed.oldest) in
      ap₂ (λ (k o : ℕ). table k (λ i. day_at (stored w t) ((o + i) % most_days))) counts starts
      ∙ joined_more (λ i. day_at (stored w t) (place_of w i) ∷ []) n
      ∙ ap₂ ◌++◌ (joined_same n _ _ (λ i h. ap one (other (place_of w i) (apart i h)))) (ap one same)

  -- twenty are held: place i is then that of the day after day i
  pub held_rest : is_full w ≡ true → held (stored w t) ≡ later w ++ t ∷ []
  unfolding held stored
  held_rest e =
      let n : w.count ≡ most_days = eqb-true w.count most_days e in
      let counts : (stored w t).count ≡ most_days - 1 + 1 = rw e (omega (arith, n)) in
      let starts : (stored w t).oldest ≡ place_of w 1 = rw e in
      let next : (i : ℕ) → (place_of w 1 + i) % most_days ≡ place_of w (i + 1) = λ i. omega arith in
      let apart : (i : ℕ) → i < most_days - 1 → place_of w (i + 1) ≡ place_of w w.count → ⊥ = λ i h q. omega (arith, q, n, placed.oldest) in
      let newest : (place_of w 1 + (most_days - 1)) % most_days ≡ place_of w w.count = omega (arith, n) in
      ap₂ (λ (k o : ℕ). table k (λ i. day_at (stored w t) ((o + i) % most_days))) counts starts
      ∙ joined_more (λ i. day_at (stored w t) ((place_of w 1 + i) % most_days) ∷ []) (most_days - 1)
      ∙ ap₂ ◌++◌
      (joined_same (most_days - 1) _ _ (λ i h. ap (λ (q : ℕ). day_at (stored w t) q ∷ []) (next i) ∙ ap one (other (place_of w (i + 1)) (apart i h))))
      (ap (λ (q : ℕ). day_at (stored w t) q ∷ []) newest ∙ ap one same)
