-- From an empty window on, the days held are the last twenty of those counted: each day keeps this. So the answer is the sums over these.
use Rattle.std.proofs.Common.{ℕ, zero, ◌-◌, ◌*◌, ◌≤◌, Bool, true, false, not, ◌&&◌, List, [], ◌∷◌, ◌++◌, ◌≡◌, leb, length, length-drop, append-nil, map, drop, arith}
use mathlib.Core.List.{foldl, append_assoc}
use mathlib.Core.Path.{refl, sym, ap, subst, ◌∙◌}
use borrow.Author.Tests.{eqb-true, eqb-false, le-leb}
use lib.ListN.{length-append}
use Rattle.std.proofs.lemmas.List.{length-set, length-replicate}
use Rattle.std.specs.Cmp.{first_so}
use Rattle.wire.specs.Choose.{all}
use Rattle.wire.specs.Lists.{keep, joined, table}
use Rattle.wire.proofs.Choose.{every}
use Rattle.rules.specs.declared.Rules.{Rules}
use Rattle.rules.specs.Verdict.{verdict, limit, fits, is_benchmark, decided, days_verdict}
use Rattle.rules.proofs.Codes.{days-decided}
use Rattle.rules.specs.declared.Totals.{Totals}
use Rattle.refusals.specs.Outcome.{good}
use Rattle.refusals.proofs.Outcomes.{refused-good, good_is}
use Rattle.window.specs.Window.{most_days, empty, summed, has_messages, held_day, held, is_full, is_refused, stored, window_after, push_answer}
use Rattle.window.specs.Laws.{last, HasPlaces, IsEmpty, pushed, is_counted, last_counted, AfterDays, AnyWindow, Laws}
use Rattle.window.specs.Parts.{is_placed, Placed, Taken}
use Rattle.window.specs.declared.WindowSums.{WindowSums}
use Rattle.window.specs.declared.Window.{Window}
use Rattle.window.proofs.Lists.{all_append, all_drop, all_kept, keep_push, last_push}
use Rattle.window.proofs.Sums.{summed_within}
use Rattle.window.proofs.Ring.{held_behind, held_full, held_rest}
use Rattle.window.proofs.Taken.{refused_is, taken, answer_refused, after_refused, after_idle, answer_good, after_stored}
use Rattle.window.proofs.Leaving.{length_held}

-- what a stored day makes of a window that 36 does not refuse
module _ (w : Window) (t : Totals) (places : HasPlaces w) (k : Taken w t) where
  -- the last twenty are held, of the days held before and the new one
  last_stored : held (stored w t) ≡ last most_days (held w ++ t ∷ [])
  last_stored = go (is_full w) refl
    where
      go : (b : Bool) → is_full w ≡ b → held (stored w t) ≡ last most_days (held w ++ t ∷ [])
      go true e =
          let n : length (held w ++ t ∷ []) - most_days ≡ 1 = rw (length-append, length_held w t k) (omega (arith, eqb-true w.count most_days e)) in
          held_rest w t k.placed places e
          ∙ sym (ap (λ (m : ℕ). drop m (held w ++ t ∷ [])) n ∙ ap (λ ts. drop 1 (ts ++ t ∷ [])) (held_full w e))
      go false e =
          let n : length (held w ++ t ∷ []) - most_days ≡ 0 = rw (length-append, length_held w t k) (omega (arith, eqb-false w.count most_days e, k.placed.count)) in
          held_behind w t k.placed places e ∙ ap (λ (m : ℕ). drop m (held w ++ t ∷ [])) (sym n)

  -- there is a number for each place still, and the count and the oldest's place are within them
  stored_places : HasPlaces (stored w t)
  unfolding stored
  stored_places = record { raw = rw length-set places.raw; score = rw length-set places.score; lots = rw length-set places.lots }

  stored_placed : Placed (stored w t)
  unfolding stored
  stored_placed = go (is_full w) refl
    where
      go : (b : Bool) → is_full w ≡ b → Placed (stored w t)
      go true e = record { count = rw e k.placed.count; oldest = rw e (omega arith) }
      go false e = record { count = rw e (omega (arith, eqb-false w.count most_days e, k.placed.count)); oldest = rw e k.placed.oldest }

-- what stands after a list of days xs from an empty window
record Stands (w : Window) (xs : List Totals) : Type 0 where
  places : HasPlaces w
  placed : Placed w
  days : held w ≡ last_counted xs

-- so no day held has a total above the limit
stands_fit : (w : Window) (xs : List Totals) → Stands w xs → all (map (fits 1) (held w)) ≡ true
stands_fit w xs s =
    rw s.days
    (all_drop (fits 1) (length (keep is_counted xs) - most_days) (keep is_counted xs) (all_kept (fits 1) is_counted (λ t h. first_so (fits 1 t) (has_messages t) h) xs))

-- and 36 asks of the new day alone
stands_refused : (w : Window) (xs : List Totals) → Stands w xs → (t : Totals) → is_refused w t ≡ not (fits 1 t)
stands_refused w xs s t =
    let p : is_placed w ≡ true = rw (le-leb w.count most_days s.placed.count, le-leb w.oldest (most_days - 1) s.placed.oldest) refl in
    rw (refused_is w t, p, stands_fit w xs s) (go (fits 1 t))
  where
    go : (b : Bool) → not ((b && true) && true) ≡ not b
    go true = refl
    go false = refl

stands_empty : (w : Window) → IsEmpty w → Stands w []
unfolding held joined keep
stands_empty w e =
    record {
      places = e.places;
      placed = record { count = omega (arith, e.none); oldest = e.oldest };
      days = ap (λ (k : ℕ). table k (held_day w)) e.none;
    }

-- a day that is not counted leaves window and days
stands_kept : (w : Window) (xs : List Totals) (t : Totals) → Stands w xs → window_after w t ≡ w → is_counted t ≡ false → Stands (window_after w t) (xs ++ t ∷ [])
stands_kept w xs t s e n =
    let same : keep is_counted (xs ++ t ∷ []) ≡ keep is_counted xs = keep_push is_counted xs t ∙ rw n (append-nil (keep is_counted xs)) in
    rw e (record { places = s.places; placed = s.placed; days = s.days ∙ ap (last most_days) (sym same) })

-- a counted one comes behind them
stands_stored : (w : Window) (xs : List Totals) (t : Totals) → Stands w xs → fits 1 t ≡ true → has_messages t ≡ true → Stands (window_after w t) (xs ++ t ∷ [])
stands_stored w xs t s f h =
    let r : is_refused w t ≡ false = rw (stands_refused w xs s t, f) refl in
    let k = taken w t r in
    let more : keep is_counted (xs ++ t ∷ []) ≡ keep is_counted xs ++ t ∷ [] = keep_push is_counted xs t ∙ rw (f, h) refl in
    rw (after_stored w t r h)
    (record {
      places = stored_places w t s.places k;
      placed = stored_placed w t s.places k;
      days =
          last_stored w t s.places k
          ∙ ap (λ ts. last most_days (ts ++ t ∷ [])) s.days
          ∙ last_push most_days (keep is_counted xs) t
          ∙ ap (last most_days) (sym more);
    })

stands_next : (w : Window) (xs : List Totals) (t : Totals) → Stands w xs → Stands (window_after w t) (xs ++ t ∷ [])
stands_next w xs t s = go (fits 1 t) (has_messages t) refl refl
  where
    go : (f h : Bool) → fits 1 t ≡ f → has_messages t ≡ h → Stands (window_after w t) (xs ++ t ∷ [])
    go true true f h = stands_stored w xs t s f h
    go true false f h = stands_kept w xs t s (after_idle w t h) (rw (f, h) refl)
    go false h f e = stands_kept w xs t s (after_refused w t (rw (stands_refused w xs s t, f) refl)) (rw f refl)

stands_from : (w : Window) (xs days : List Totals) → Stands w xs → Stands (foldl window_after w days) (xs ++ days)
stands_from w xs [] s = rw (append-nil xs) s
stands_from w xs (t ∷ days) s =
    rw (sym (append_assoc xs (t ∷ []) days)) (stands_from (window_after w t) (xs ++ t ∷ []) days (stands_next w xs t s))

after-days : (w : Window) → IsEmpty w → (days : List Totals) → AfterDays w days
after-days w e days =
    let v = pushed w days in
    let s : Stands v days = stands_from w [] days (stands_empty w e) in
    record {
      held_days = s.days;
      refused = stands_refused v days s;
      answered = λ t f. answer_good v t (stands_refused v days s t ∙ ap not f) ∙ ap (λ ts. good (summed ts)) (stands_next v days t s).days;
    }

starts-empty : IsEmpty empty
starts-empty =
    record {
      none = refl;
      oldest = omega arith;
      places = record { raw = length-replicate most_days zero; score = length-replicate most_days zero; lots = length-replicate most_days zero };
    }

-- days within the limit have sums that are none of those that 24 refuses
sums_taken : (ts : List Totals) → all (map (fits 1) ts) ≡ true → fits (length ts) (summed ts).totals ≡ true
sums_taken ts e =
    let n : ℕ = length ts in
    let t : Totals = (summed ts).totals in
    let w = summed_within ts e in
    let raw : leb t.raw (limit * n) ≡ true = le-leb t.raw (limit * n) (omega (arith, w.raw)) in
    let score : leb t.score (limit * n) ≡ true = le-leb t.score (limit * n) (omega (arith, w.score)) in
    let lots : leb t.lots (limit * n) ≡ true = le-leb t.lots (limit * n) (omega (arith, w.lots)) in
    every _ (raw, (score, (lots, tt)))

any-window : (w : Window) (t : Totals) → HasPlaces w → AnyWindow w t
unfolding all
any-window w t places =
    record {
      held_after = λ r h. ap held (after_stored w t r h) ∙ last_stored w t places (taken w t r);
      has_verdict = λ P h B e b. go (is_refused w t) refl P h B e b;
    }
  where
    held_fit : is_refused w t ≡ false → (b : Bool) → has_messages t ≡ b
        → (all (map (fits 1) (held (window_after w t))) ≡ true) × (length (held (window_after w t)) ≤ most_days)
    held_fit r false h =
        let k = taken w t r in
        rw (after_idle w t h) (k.days, rw (length_held w t k) k.placed.count)
    held_fit r true h =
        let k = taken w t r in
        let e : all (map (fits 1) (held w ++ t ∷ [])) ≡ true = all_append (fits 1) (held w) (t ∷ []) ∙ rw (k.days, k.day) refl in
        rw (after_stored w t r h, last_stored w t places k)
        (all_drop (fits 1) (length (held w ++ t ∷ []) - most_days) (held w ++ t ∷ []) e, simp (length-drop, length-append, length_held w t k) (omega (arith, k.placed.count)))

    go : (b : Bool) → is_refused w t ≡ b → (P : Rules) (h : WindowSums) (B : ℕ) → push_answer w t ≡ good h → is_benchmark B ≡ true
        → days_verdict P h.days h.totals B ≡ decided (verdict P B h.days h.totals)
    go true r P h B e b = absurd (refused-good (sym (answer_refused w t r) ∙ e))
    go false r P h B e b =
        let f = held_fit r (has_messages t) refl in
        let s : summed (held (window_after w t)) ≡ h = good_is (sym (answer_good w t r) ∙ e) in
        subst (λ (h : WindowSums). days_verdict P h.days h.totals B ≡ decided (verdict P B h.days h.totals)) s
        (days-decided P _ _ B (omega (arith, f.1)) (sums_taken (held (window_after w t)) f.0) b)

pub laws : Laws
laws = record { starts_empty = starts-empty; after_days = after-days; any_window = any-window }
