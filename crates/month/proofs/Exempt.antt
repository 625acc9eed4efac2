-- Laws of a firm's month: where 22 does not refuse, no total of a day in effect is above the limit, so no sum over d counted days is above d
-- times it; there is then a verdict on the month's sums, which says whether the month is exempt.
use Prim.Native.Nat.{ℕ, ◌+◌, ◌-◌, ◌*◌, ◌/◌, ◌%◌, ◌≤◌, ◌<◌}
use mathlib.Core.Bool.{Bool, true, false, cond, not, ◌&&◌}
use mathlib.Core.List.{List}
use mathlib.Core.Path.{◌≡◌, refl, sym, ap, ◌∙◌}
use native.Mathlib.Nat.{le_trans, add-zero, mul-le-mul_left}
use native.Mathlib.Omega.{arith}
use lib.Dec.{ltb, lit≤}
use borrow.Author.Tests.{ltb-true, le-leb, le-ltb, not-false}
use Rattle.wire.specs.Choose.{within}
use Rattle.wire.specs.Sums.{sum, count}
use Rattle.std.specs.Cmp.{first_so, second_so}
use Rattle.wire.proofs.Bools.{cond_le, cond_where, range}
use Rattle.wire.proofs.Choose.{every, none_at}
use Rattle.wire.proofs.Sums.{sum_more, sum_le, sum_most, sum-cost}
use Rattle.rules.specs.Verdict.{not_judged, is_violation, limit, fits, is_benchmark, days_verdict, days_meaning}
use Rattle.rules.specs.Month.{Terms, DailyTotals, counted, over_counted, days, sums, exempt}
use Rattle.rules.specs.Marks.{places, day_of, group_of, verdict_at}
use Rattle.rules.specs.declared.Rules.{Rules}
use Rattle.rules.specs.declared.NoVerdict.{NoVerdict}
use Rattle.rules.specs.declared.NoVerdict.TheVariants as none
use Rattle.rules.specs.declared.Totals.{Totals}
use Rattle.rules.specs.declared.Verdict.{Verdict}
use Rattle.std.specs.Prelude.{Result, Ok, Err}
use Rattle.std.specs.Result.{result_unwrap_or}
use Rattle.rules.proofs.Codes.{Fitting, fitting, exempt_code, days-decided}
use Rattle.calendar.specs.Calendar.{days_in, in_effect}
use Rattle.lookup.specs.Lookup.{group_at}
use Rattle.lookup.specs.declared.Layout.{Layout}
use Rattle.schedule.proofs.Found.{group-listed}
use Rattle.calendar.proofs.Laws.{days_most}
use Rattle.lookup.specs.InForce.{rules_of}
use Rattle.cell.specs.Cell.{is_within, FirmCells, cell_totals}
use Rattle.book.specs.Book.{cells, totals_in}
use Rattle.month.specs.Month.{terms, is_excess, any_excess}
use Rattle.month.specs.Parts.{Sound, Within, with_day, sums_to, verdict_in}
use Rattle.month.specs.declared.days.MonthSums.{MonthSums}

-- the verdict that is told, or that nothing is judged
pub verdict_told : (r : Result Verdict NoVerdict) {v : Verdict} → v ≡ result_unwrap_or r not_judged → v ≡ verdict_in (days_meaning r)
verdict_told (Ok v) e = e
verdict_told (Err none.Refused) e = e
verdict_told (Err none.TooManyDays) e = e

-- a cell of a day in effect stands at one of the places that 22 looks at
module _ (S : List ℕ) {l : Layout} (c : FirmCells) (ok : Sound S l c) (g day : ℕ) (h : g < 32) (on : in_effect l.month l.closed day ≡ true) where
  pub cell_fits : fits 1 (c g day).totals ≡ true
  unfolding any_excess
  cell_fits =
      let r = range 1 (days_in l.month) day (first_so (within 1 (days_in l.month) day) _ on) in
      let m = days_most l.month in
      let i : ℕ = (day - 1) * 32 + g in
      let p : i % 32 ≡ g = omega arith in
      let q : i / 32 + 1 ≡ day = omega arith in
      let z = none_at places (is_excess l c) ok.within i (omega arith) in
      first_so (fits 1 (c g day).totals) _ (not-false (is_within (c g day)) (simp (p, q, le-leb _ _ r.most) at z))

-- so on a counted day the totals are within the limit
pub counted_fits : (S : List ℕ) {l : Layout} (B : List ℕ) (f : ℕ) → Sound S l (cells l.groups B f) → (g : ℕ) → g < 32 → (day : ℕ)
    → counted (terms S l) (totals_in l.groups B f) g day ≡ true → fits 1 (totals_in l.groups B f g day) ≡ true
counted_fits S {l} B f ok g h day e = cell_fits S (cells l.groups B f) ok g day h (first_so (in_effect l.month l.closed day) _ e)

-- so there is a verdict on a cell of a listed group, on a day in effect, and it is the place's
pub verdict_place : (S : List ℕ) {l : Layout} (c : FirmCells) → Sound S l c → (i : ℕ)
    → (ltb (group_of i) l.groups && in_effect l.month l.closed (day_of i)) ≡ true
    → verdict_in (days_verdict (rules_of S) 1 (cell_totals c (group_of i) (day_of i)) (group_at S l (group_of i)).benchmark) ≡ verdict_at (rules_of S) (terms S l) (cell_totals c) i
verdict_place S {l} c ok i e =
    let h = ltb-true (group_of i) l.groups (first_so (ltb (group_of i) l.groups) _ e) in
    let on = second_so (ltb (group_of i) l.groups) _ e in
    let b = (group-listed S ok.checked (group_of i) h).benchmark in
    rw e (ap verdict_in (days-decided (rules_of S) 1 (cell_totals c (group_of i) (day_of i)) (group_at S l (group_of i)).benchmark (lit≤ tt) (cell_fits S c ok (group_of i) (day_of i) (omega arith) on) b))

-- a day's sums, number by number
day_more : (t : Bool) (s : MonthSums) (a : Totals)
    → cond t (with_day s a) s
    ≡ record { raw = s.raw + cond t a.raw 0; score = s.score + cond t a.score 0; lots = s.lots + cond t a.lots 0; days = s.days + cond t 1 0 }
day_more true s a = refl
day_more false s a = simp add-zero

-- sums that are nothing, number by number
zeros : (raw score lots days : ℕ) → raw ≡ 0 → score ≡ 0 → lots ≡ 0 → days ≡ 0
    → ◌≡◌ {A = MonthSums} (record { raw = raw; score = score; lots = lots; days = days }) (record { raw = 0; score = 0; lots = 0; days = 0 })
zeros raw score lots days a b c d = rw (a, b, c, d) refl

module _ (s : Terms) (c : DailyTotals) (g : ℕ) where
  pub sums_none : (z : MonthSums) → (z.raw ≡ 0) × ((z.score ≡ 0) × ((z.lots ≡ 0) × (z.days ≡ 0))) → z ≡ sums_to s c g 0
  unfolding sums_to sum
  sums_none z e = zeros z.raw z.score z.lots z.days e.0 e.1.0 e.1.1.0 e.1.1.1

  pub sums_more : (n : ℕ) → sums_to s c g (n + 1) ≡ cond (counted s c g (n + 1)) (with_day (sums_to s c g n) (c g (n + 1))) (sums_to s c g n)
  unfolding sums_to
  sums_more n = rw (sum_more, sum_more, sum_more, sum_more) (sym (day_more (counted s c g (n + 1)) (sums_to s c g n) (c g (n + 1))))

  -- the sums with a day more
  pub sums_next : (day : ℕ) → 1 ≤ day
      → sums_to s c g (day + 1 - 1) ≡ cond (counted s c g day) (with_day (sums_to s c g (day - 1)) (c g day)) (sums_to s c g (day - 1))
  sums_next day h =
      let e : day + 1 - 1 ≡ day - 1 + 1 = omega arith in
      let f : day - 1 + 1 ≡ day = omega arith in
      rw (e, sums_more, f) refl

  -- a group without messages is exempt
  pub exempt_quiet : (P : Rules) → ((day : ℕ) → (c g day).raw ≡ 0) → exempt P s c g ≡ true
  exempt_quiet P none =
      let quiet = sum_most 31 0 (λ i. cond (counted s c g (i + 1)) (c g (i + 1)).raw 0) (λ i h. cond_le (counted s c g (i + 1)) (omega (arith, none (i + 1))) (lit≤ tt)) in
      rw (le-leb (sums s c g).raw (P.edge1 * days s c g) (omega (arith, quiet))) refl

  -- what is at most the limit on each counted day
  module _ (f : Totals → ℕ) (small : (day : ℕ) → counted s c g day ≡ true → f (c g day) ≤ limit) where
    over_most : (n : ℕ) → over_counted s c n g f ≤ limit * over_counted s c n g (λ t. 1)
    over_most n =
        let one : over_counted s c n g (λ t. 1) ≡ count n (λ i. counted s c g (i + 1)) = sum-cost n 1 (λ i. counted s c g (i + 1)) ∙ omega arith in
        rw (one, ← sum-cost n limit (λ i. counted s c g (i + 1)))
        (sum_le n _ _ (λ i h. cond_where (counted s c g (i + 1)) (small (i + 1))))

  days_under : (n : ℕ) → over_counted s c n g (λ t. 1) ≤ n
  days_under n = omega (arith, sum_most n 1 (λ i. cond (counted s c g (i + 1)) 1 0) (λ i h. cond_le (counted s c g (i + 1)) (lit≤ tt) (lit≤ tt)))

  module _ (fit : (day : ℕ) → counted s c g day ≡ true → fits 1 (c g day) ≡ true) where
    small : (day : ℕ) → counted s c g day ≡ true → Fitting 1 (c g day)
    small day e = fitting 1 (c g day) (fit day e)

    pub sums-within : (n : ℕ) → Within n (sums_to s c g n)
    unfolding sums_to
    sums-within n =
        let most : (f : Totals → ℕ) → ((day : ℕ) → counted s c g day ≡ true → f (c g day) ≤ limit) → over_counted s c n g f ≤ n * limit
        = λ f h. le_trans (over_most f h n) (omega (arith, mul-le-mul_left limit (days_under n))) in
        record {
          raw = most (λ t. t.raw) (λ d e. (small d e).raw);
          score = most (λ t. t.score) (λ d e. (small d e).score);
          lots = most (λ t. t.lots) (λ d e. (small d e).lots);
          days = days_under n;
        }

    sums_fit : fits (days s c g) (sums s c g) ≡ true
    sums_fit =
        every _ (
          le-leb _ _ (over_most (λ t. t.raw) (λ d e. (small d e).raw) 31),
          (
            le-leb _ _ (over_most (λ t. t.score) (λ d e. (small d e).score) 31),
            (le-leb _ _ (over_most (λ t. t.lots) (λ d e. (small d e).lots) 31), tt),
          ),
        )

    -- so there is a verdict on a month's sums, and it says whether the month is exempt
    pub exempt_verdict : (P : Rules) → is_benchmark (s.benchmark g) ≡ true
        → exempt P s c g ≡ not (is_violation (verdict_in (days_verdict P (days s c g) (sums s c g) (s.benchmark g))).code)
    exempt_verdict P b =
        let B = s.benchmark g in
        let is = days-decided P (days s c g) (sums s c g) B (days_under 31) sums_fit b in
        exempt_code P B (days s c g) (sums s c g) ∙ ap (λ j. not (is_violation (verdict_in j).code)) (sym is)

-- past the last group there are no messages
pub exempt_past : (S : List ℕ) (l : Layout) (B : List ℕ) (f g : ℕ) → l.groups ≤ g → exempt (rules_of S) (terms S l) (totals_in l.groups B f) g ≡ true
exempt_past S l B f g h =
    exempt_quiet (terms S l) (totals_in l.groups B f) g (rules_of S) (λ day. rw (le-ltb g l.groups h, totals_in, cell_totals, cells) refl)
