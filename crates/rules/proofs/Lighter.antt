-- A day taken off had at least the group's average, so the average of the days that are left is no larger, and is above no edge that it was not above; other
-- days count as before. So the days and the sums are eased, and an exempt group stays exempt. A day without messages is no violation; so no place gets
-- worse, and no amount rises.
use Prim.Native.Nat.{ℕ, zero, suc, ◌+◌, ◌*◌, ◌≤◌, ◌<◌, zero-le}
use mathlib.Core.Bool.{Bool, true, false, cond, not, ◌&&◌, ◌||◌, false≢true}
use mathlib.Core.Path.{◌≡◌, refl, ◌∙◌}
use native.Mathlib.Nat.{le_refl, mul-le-mul_left, mul-le-mul_right, mul_comm, mul_right_comm, mul-add, mul-suc}
use native.Mathlib.Omega.{arith}
use lib.Dec.{leb, ltb, eqb}
use borrow.Author.Tests.{leb-true, leb-false, ltb-true, ltb-false, lt-ltb, le-ltb}
use Rattle.wire.specs.Sums.{bit, sum}
use Rattle.std.specs.Cmp.{first_so, second_so}
use Rattle.wire.proofs.Implies.{◌⇒◌, not-⇒, and-⇒, leb-⇒}
use Rattle.wire.proofs.Sums.{sum_le}
use Rattle.rules.specs.Verdict.{not_judged, verdict, is_violation, is_severe}
use Rattle.rules.specs.Constants.{Falling}
use Rattle.rules.specs.Month.{Terms, DailyTotals, counted, days, sums, exempt}
use Rattle.rules.specs.Marks.{day_of, group_of, judged, amount}
use Rattle.rules.specs.Lighter.{Lighter, CellFalls, LighterMonth, LighterWithDaysOff, NoSevereNamed}
use Rattle.rules.specs.declared.Rules.{Rules}
use Rattle.rules.specs.declared.Totals.{Totals}
use Rattle.rules.specs.declared.Verdict.{Verdict}
use Rattle.rules.proofs.Codes.{severe as severe_code, Eased, fails, exempt_code, violation_falls, severe_falls}
use Rattle.rules.proofs.Marks.{Kind, none, ordinary, severe, kind}
use Rattle.rules.proofs.Bills.{Milder, amount_falls}

pub eased : {t' t : Totals} {d : ℕ} → Lighter t' t → Eased d t' d t
eased h = record { edges = λ e. leb-⇒ h.raw (le_refl _); score = h.score; lots = h.lots }

-- how a group's day enters the sums of two months: whether it counts (n' against n), and its totals (t' against t). R messages of d days were the first
-- month's: where it counts no longer, it had at least their average. Summed over the days, d × R' + R × d ≤ d × R + R × d', so d × R' ≤ R × d'
record Entered (d R : ℕ) (n' : Bool) (t' : Totals) (n : Bool) (t : Totals) : Type 0 where
  raw : cond n' t'.raw 0 ≤ cond n t.raw 0
  score : cond n' t'.score 0 ≤ cond n t.score 0
  lots : cond n t.lots 0 ≤ cond n' t'.lots 0
  average : d * cond n' t'.raw 0 + R * cond n 1 0 ≤ d * cond n t.raw 0 + R * cond n' 1 0

-- an order of two such sides on each day is one of their sums
weighted : (k d R : ℕ) (r' r m' m : ℕ → ℕ) → ((i : ℕ) → i < k → d * r' i + R * m i ≤ d * r i + R * m' i)
    → d * sum k r' + R * sum k m ≤ d * sum k r + R * sum k m'
unfolding sum
weighted zero d R r' r m' m h = le_refl _
weighted (suc k) d R r' r m' m h =
    rw (mul-add d (sum k r') (r' k), mul-add R (sum k m) (m k), mul-add d (sum k r) (r k), mul-add R (sum k m') (m' k))
    (omega (arith, weighted k d R r' r m' m (λ i l. h i (omega arith)), h k (le_refl _)))

-- where the average does not rise, a month at or below an edge stays there: else d × (e × d' + 1) ≤ d × R' ≤ R × d' ≤ e × d × d', so that no day counted
-- and there were no messages
edge-⇒ : (e d' R' d R : ℕ) → d * R' ≤ R * d' → R' ≤ R → leb R (e * d) ⇒ leb R' (e * d')
edge-⇒ e d' R' d R falls fewer = go (leb R (e * d)) (leb R' (e * d')) refl refl
  where
    go : (x y : Bool) → leb R (e * d) ≡ x → leb R' (e * d') ≡ y → x ⇒ y
    go false y p q = omega arith
    go true true p q = omega arith
    go true false p q =
        let most = mul-le-mul_right d' (leb-true R (e * d) p) in
        let more = mul-le-mul_left d (leb-false R' (e * d') q) in
        let none : d ≤ 0 = omega (arith, most, more, falls, mul-suc d (e * d'), mul_right_comm e d d', mul_comm (e * d') d) in
        omega (arith, mul-le-mul_left e none, fewer, leb-true R (e * d) p, leb-false R' (e * d') q)

-- a day taken off
off_entered : {d R : ℕ} {t' t : Totals} → ltb 0 t.raw ≡ true → t'.raw ≡ 0 → t.lots ≡ 0 → R ≤ t.raw * d → Entered d R (ltb 0 t'.raw) t' (ltb 0 t.raw) t
off_entered {d} {R} {t'} {t} counts silent lotless average =
    rw (counts, silent)
    record { raw = zero-le; score = zero-le; lots = omega (arith, lotless); average = omega (arith, average, mul_comm t.raw d) }

-- and one that counts in both months or in neither
both_entered : {d R : ℕ} {t' t : Totals} → (n : Bool) → Lighter t' t → Entered d R n t' n t
both_entered {d} true h =
    record { raw = h.raw; score = h.score; lots = h.lots; average = omega (arith, mul-le-mul_left d h.raw) }
both_entered false h = record { raw = le_refl 0; score = le_refl 0; lots = le_refl 0; average = le_refl _ }

-- messages stay, and none come
same_counted : {t' t : Totals} → CellFalls t' t → ltb 0 t'.raw ≡ ltb 0 t.raw
same_counted {t'} {t} h = go (ltb 0 t.raw) refl
  where
    go : (x : Bool) → ltb 0 t.raw ≡ x → ltb 0 t'.raw ≡ x
    go true q = lt-ltb 0 t'.raw (omega (arith, h.kept (ltb-true 0 t.raw q)))
    go false q = le-ltb 0 t'.raw (omega (arith, ltb-false 0 t.raw q, h.lighter.raw))

module _ (s : Terms) (off : (g day : ℕ) → Bool) (c' c : DailyTotals) (h : LighterWithDaysOff s off c' c) (g : ℕ) (hg : g < s.groups) where
  entered : (k : ℕ) → Entered (days s c g) (sums s c g).raw (counted s c' g k) (c' g k) (counted s c g k) (c g k)
  entered k = go (s.in_effect k) (off g k) refl refl
    where
      go : (x y : Bool) → s.in_effect k ≡ x → off g k ≡ y
          → Entered (days s c g) (sums s c g).raw (x && ltb 0 (c' g k).raw) (c' g k) (x && ltb 0 (c g k).raw) (c g k)
      go false y p q = record { raw = le_refl 0; score = le_refl 0; lots = le_refl 0; average = le_refl _ }
      go true true p q =
          let o = h.days_off g k hg p q in
          off_entered (second_so (s.in_effect k) _ o.counts) o.silent (omega (arith, o.no_lots)) (omega (arith, leb-true _ _ o.average))
      go true false p q = let l = h.others g k hg p q in rw (same_counted l) (both_entered (ltb 0 (c g k).raw) l.lighter)

  fewer : (sums s c' g).raw ≤ (sums s c g).raw
  fewer = sum_le 31 _ _ (λ i l. (entered (i + 1)).raw)

  average_falls : days s c g * (sums s c' g).raw ≤ (sums s c g).raw * days s c' g
  average_falls =
      let sides : days s c g * (sums s c' g).raw + (sums s c g).raw * days s c g ≤ days s c g * (sums s c g).raw + (sums s c g).raw * days s c' g
      = weighted 31 (days s c g) (sums s c g).raw _ (λ i. cond (counted s c g (i + 1)) (c g (i + 1)).raw 0)
      (λ i. cond (counted s c' g (i + 1)) 1 0) (λ i. cond (counted s c g (i + 1)) 1 0) (λ i l. (entered (i + 1)).average) in
      omega (arith, sides, mul_comm (days s c g) (sums s c g).raw)

  sums-eased : Eased (days s c' g) (sums s c' g) (days s c g) (sums s c g)
  sums-eased =
      record {
        edges = λ e. edge-⇒ e (days s c' g) (sums s c' g).raw (days s c g) (sums s c g).raw average_falls fewer;
        score = sum_le 31 _ _ (λ i l. (entered (i + 1)).score);
        lots = sum_le 31 _ _ (λ i l. (entered (i + 1)).lots);
      }

-- a place is no worse, where it is listed and in effect: its verdict v' against v, its group exempt (x' against x)
record Place (v' : Verdict) (x' : Bool) (v : Verdict) (x : Bool) : Type 0 where
  violation : is_violation v'.code ⇒ is_violation v.code
  severe : is_severe v'.code ⇒ is_severe v.code
  stays : x ⇒ x'

-- a place is severe or left where it is a violation, and severe or not exempt
either : {f s : Bool} → Kind f s → (x : Bool) → bit s + bit (f && not x) ≡ bit ((f || s) && not (not s && x))
either none x = refl
either severe x = refl
either ordinary true = refl
either ordinary false = refl

-- of the grouping or not (g), listed and in effect or not (q)
placed : (g q : Bool) (v' : Verdict) (x' : Bool) (v : Verdict) (x : Bool) → (q ≡ true → Place v' x' v x)
    → Milder
    (bit (g && is_severe (cond q v' not_judged).code)) (bit (g && (eqb (cond q v' not_judged).code 4 && not x')))
    (bit (g && is_severe (cond q v not_judged).code)) (bit (g && (eqb (cond q v not_judged).code 4 && not x)))
placed false q v' x' v x h = omega arith
placed true false v' x' v x h = omega arith
placed true true v' x' v x h =
    let p = h refl in
    record {
      severe = p.severe.le;
      both = rw (either (kind v'.code) x', either (kind v.code) x) (and-⇒ p.violation (not-⇒ (and-⇒ (not-⇒ p.severe) p.stays))).le;
    }

-- a day without messages is no violation
module _ (P : Rules) (B : ℕ) (t : Totals) (silent : t.raw ≡ 0) where
  silent_passes : is_violation (verdict P B 1 t).code ≡ false
  silent_passes = fails P B 1 t ∙ rw (silent, le-ltb (P.edge1 * 1) 0 zero-le) refl

  silent_mild : is_severe (verdict P B 1 t).code ≡ false
  silent_mild = severe_code P B 1 t ∙ rw (silent, le-ltb (P.edge1 * 1) 0 zero-le) refl

module _ (P : Rules) (F : Falling P) (s : Terms) (off : (g day : ℕ) → Bool) (c' c : DailyTotals) (h : LighterWithDaysOff s off c' c) where
  pub exempt_stays : (g : ℕ) → g < s.groups → exempt P s c g ⇒ exempt P s c' g
  exempt_stays g hg =
      rw (exempt_code P (s.benchmark g) (days s c g) (sums s c g), exempt_code P (s.benchmark g) (days s c' g) (sums s c' g))
      (not-⇒ (violation_falls P F (sums-eased s off c' c h g hg) (s.benchmark g)))

  place : (g day : ℕ) → g < s.groups → s.in_effect day ≡ true
      → Place (verdict P (s.benchmark g) 1 (c' g day)) (exempt P s c' g) (verdict P (s.benchmark g) 1 (c g day)) (exempt P s c g)
  place g day hg p = go (off g day) refl
    where
      go : (x : Bool) → off g day ≡ x
          → Place (verdict P (s.benchmark g) 1 (c' g day)) (exempt P s c' g) (verdict P (s.benchmark g) 1 (c g day)) (exempt P s c g)
      go true q =
          let z = (h.days_off g day hg p q).silent in
          record {
            violation = rw (silent_passes P (s.benchmark g) (c' g day) z) (omega arith);
            severe = rw (silent_mild P (s.benchmark g) (c' g day) z) (omega arith);
            stays = exempt_stays g hg;
          }
      go false q =
          let l = (h.others g day hg p q).lighter in
          record { violation = violation_falls P F (eased l) _; severe = severe_falls P F (eased l) _; stays = exempt_stays g hg }

  pub amount_lighter : (named : (i : ℕ) → Bool) → NoSevereNamed (judged P s c named) → (e : ℕ)
      → amount P (judged P s c' named) e ≤ amount P (judged P s c named) e
  amount_lighter named spared e =
      amount_falls P e (judged P s c' named) (judged P s c named) (λ i. refl) spared
      (λ i. placed (eqb (s.grouping (group_of i)) e) (ltb (group_of i) s.groups && s.in_effect (day_of i)) _ _ _ _
      (λ q.
      place (group_of i) (day_of i) (ltb-true _ _ (first_so (ltb (group_of i) s.groups) _ q)) (second_so (ltb (group_of i) s.groups) _ q)))

-- demand 3 takes no day off
abbrev pub no_day_off : (g day : ℕ) → Bool
no_day_off g day = false

pub none_off : {s : Terms} {c' c : DailyTotals} → LighterMonth s c' c → LighterWithDaysOff s no_day_off c' c
none_off h = record { days_off = λ g day hg p q. absurd (false≢true q); others = λ g day hg p q. h g day hg p }
