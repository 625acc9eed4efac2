-- Laws of sums over a list of days.
use Rattle.std.proofs.Common.{suc, ◌+◌, ◌-◌, ◌≤◌, true, List, [], ◌∷◌, ◌++◌, ◌≡◌, length, map, arith}
use mathlib.Core.Path.{refl}
use lib.ListN.{length-append}
use Rattle.std.specs.List.{sum_by}
use Rattle.std.proofs.lemmas.List.Sums.{sum_by_push, sum_by-cons}
use Rattle.rules.specs.declared.Totals.{Totals}
use Rattle.rules.specs.Verdict.{fits}
use Rattle.rules.proofs.Codes.{fitting}
use Rattle.wire.specs.Choose.{all}
use Rattle.std.specs.Cmp.{first_so, second_so}
use Rattle.window.specs.Window.{most_days, summed}
use Rattle.window.specs.Parts.{Within, Holds, with_day, without_day}

-- a day behind the others is a day more
pub summed_push : (ts : List Totals) (t : Totals) → summed (ts ++ t ∷ []) ≡ with_day (summed ts) t
summed_push ts t =
    rw (sum_by_push (λ (x : Totals). x.raw) ts t, sum_by_push (λ (x : Totals). x.score) ts t, sum_by_push (λ (x : Totals). x.lots) ts t, length-append ts (t ∷ []))
    (refl)

-- the first day left out is a day less
pub summed_rest : (t : Totals) (ts : List Totals) → without_day (summed (t ∷ ts)) t ≡ summed ts
summed_rest t ts =
    rw (sum_by-cons (λ (x : Totals). x.raw) t ts, sum_by-cons (λ (x : Totals). x.score) t ts, sum_by-cons (λ (x : Totals). x.lots) t ts)
    (let r : t.raw + sum_by (λ (x : Totals). x.raw) ts - t.raw ≡ sum_by (λ (x : Totals). x.raw) ts = omega arith in
    let s : t.score + sum_by (λ (x : Totals). x.score) ts - t.score ≡ sum_by (λ (x : Totals). x.score) ts = omega arith in
    let v : t.lots + sum_by (λ (x : Totals). x.lots) ts - t.lots ≡ sum_by (λ (x : Totals). x.lots) ts = omega arith in
    let d : suc (length ts) - 1 ≡ length ts = omega arith in
    rw (r, s, v, d) refl)

-- the first day is among the sums
pub holds_first : (t : Totals) (ts : List Totals) → Holds (summed (t ∷ ts)) t
holds_first t ts =
    record {
      raw = rw sum_by-cons (omega arith);
      score = rw sum_by-cons (omega arith);
      lots = rw sum_by-cons (omega arith);
      days = omega arith;
    }

-- days within the limit have sums within so many times it
pub summed_within : (ts : List Totals) → all (map (fits 1) ts) ≡ true → Within (length ts) (summed ts)
unfolding all
summed_within [] e = record { raw = omega arith; score = omega arith; lots = omega arith; days = omega arith }
summed_within (t ∷ ts) e =
    let w = summed_within ts (second_so (fits 1 t) (all (map (fits 1) ts)) e) in
    let f = fitting 1 t (first_so (fits 1 t) (all (map (fits 1) ts)) e) in
    record {
      raw = rw sum_by-cons (omega (arith, w.raw, f.raw));
      score = rw sum_by-cons (omega (arith, w.score, f.score));
      lots = rw sum_by-cons (omega (arith, w.lots, f.lots));
      days = omega arith;
    }

-- and so where they are at most twenty
pub within_most : (ts : List Totals) → all (map (fits 1) ts) ≡ true → length ts ≤ most_days → Within most_days (summed ts)
within_most ts e h =
    let w = summed_within ts e in
    record { raw = omega (arith, w.raw, h); score = omega (arith, w.score, h); lots = omega (arith, w.lots, h); days = omega (arith, w.days, h) }
