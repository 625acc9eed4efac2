-- The lines of the violations before a place are so many times thirteen bytes, so that the place's own line stands behind them, and is read back as
-- it was written. A violation is at a place that is listed and in effect, and there the month's verdict is that on the cell.
use Prim.Native.Nat.{ℕ, ◌+◌, ◌*◌, ◌≤◌, ◌<◌}
use mathlib.Core.Bool.{true, cond, not, ◌&&◌, false≢true}
use mathlib.Core.List.{List, [], ◌++◌, append_assoc}
use mathlib.Core.Path.{◌≡◌, refl, sym, ap, subst, ◌∙◌}
use native.Mathlib.Omega.{arith}
use lib.Dec.{ltb}
use lib.ListN.{length, drop}
use borrow.Author.Tests.{eq-eqb}
use Rattle.wire.specs.Bytes.{u16_at, u32_at}
use Rattle.wire.specs.Lists.{joined}
use Rattle.wire.specs.Sums.{bit, count}
use Rattle.wire.proofs.Bytes.{u32_again}
use Rattle.wire.proofs.Bools.{cond_le}
use Rattle.wire.proofs.Lists.{joined_behind}
use Rattle.wire.proofs.Sums.{sum_same}
use Rattle.rules.specs.Verdict.{not_judged, is_violation}
use Rattle.rules.specs.Marks.{places, day_of, group_of, Judged, is_billed, cost, mark}
use Rattle.rules.specs.declared.Verdict.{Verdict}
use Rattle.rules.proofs.Marks.{on_place}
use Rattle.records.specs.declared.fields.Group.{Group}
use Rattle.lookup.specs.Lookup.{group_at}
use Rattle.lookup.specs.declared.Layout.{Layout}
use Rattle.month.specs.Month.{terms}
use Rattle.statement.specs.Layout.{line_size}
use Rattle.statement.specs.Lines.{first_letter, second_letter, line_bytes, line_at, lines, tally, totals_bytes, shown}
use Rattle.statement.specs.Statement.{statement_bytes}
use Rattle.statement.proofs.Shown.{line_some, lines_length, mark_some}
use Rattle.guarantee.specs.Demand3.{layout, is_listed, month}
use Rattle.guarantee.specs.EachLine.{LineIs, line_shown, cell_verdict, EachLine}
use Rattle.schedule.proofs.Found.{rules-dollars}
use Rattle.lookup.specs.InForce.{rules_of}
use Rattle.rules.specs.declared.Rules.{Rules}
use Prim.Native.Nat.{zero-le}
use Rattle.guarantee.proofs.Demand3.{opens, run, no_cause}

-- the line of place i of a month j
module _ (S : List ℕ) (l : Layout) (j : Judged) (i : ℕ) where
  abbrev at : (k : ℕ) → List ℕ
  at = line_at (rules_of S) (group_at S l) (mark (rules_of S) j) (λ k. (j.verdict k).factor)

  abbrev before : ℕ
  before = count i (λ k. is_violation (j.verdict k).code)

  abbrev line : List ℕ
  line = let g = group_at S l (group_of i) in line_bytes (rules_of S) (day_of i) (first_letter g) (second_letter g) (mark (rules_of S) j i) (j.verdict i).factor

  -- the lines before it
  lines_before : length (joined i at) ≡ line_size * before
  lines_before =
      lines_length (rules_of S) (group_at S l) (mark (rules_of S) j) (λ k. (j.verdict k).factor) i
      ∙ ap (λ (n : ℕ). line_size * n) (sum_same i _ _ (λ k h. ap bit (mark_some (rules_of S) j k)))

  is_line : is_violation (j.verdict i).code ≡ true → at i ≡ line
  is_line v =
      line_some (rules_of S) (group_at S l) (mark (rules_of S) j) (λ k. (j.verdict k).factor) i
      (λ e. false≢true (ap not (sym (eq-eqb (mark (rules_of S) j i) 0 e)) ∙ mark_some (rules_of S) j i ∙ v))

  -- it stands behind them, whatever stands behind it
  after : List ℕ → List ℕ
  after ys = drop (length (joined (i + 1) at)) (joined places at) ++ ys

  line_there : i < places → is_violation (j.verdict i).code ≡ true → (ys : List ℕ)
      → drop (line_size * before) (joined places at ++ ys) ≡ line ++ after ys
  unfolding after
  line_there h v ys =
      ap (λ n. drop n (joined places at ++ ys)) (sym lines_before)
      ∙ joined_behind at i places h ys
      ∙ ap (λ xs. xs ++ (drop (length (joined (i + 1) at)) (joined places at) ++ ys)) (is_line v)

-- what stands at a line's places, whatever stands behind it
reads : (P : Rules) → P.dollars ≤ 10000 → (day mark : ℕ) (g : Group) (v : Verdict) (ys : List ℕ)
    → LineIs P (line_bytes P day (first_letter g) (second_letter g) mark v.factor ++ ys) day g mark v
unfolding u32_at u16_at
reads P small day mark g v ys =
    let c : cost P mark ≤ 10000 = cond_le (is_billed mark) small zero-le in
    record {
      length = refl;
      kind = refl;
      day_is = refl;
      first = refl;
      second = refl;
      mark_is = refl;
      dollars = u32_again (cost P mark) [] (omega (arith, c));
      factor = refl;
    }

-- the line of a violation, in the bytes of its month and whatever stands behind them
pub line_read : (S : List ℕ) (l : Layout) → (rules_of S).dollars ≤ 10000 → (j : Judged) (i : ℕ) → i < places → is_violation (j.verdict i).code ≡ true → (ys : List ℕ)
    → LineIs (rules_of S) (drop (line_size * before S l j i) (statement_bytes S l j ++ ys)) (day_of i) (group_at S l (group_of i)) (mark (rules_of S) j i) (j.verdict i)
unfolding shown
line_read S l small j i h v ys =
    let joins = append_assoc (lines (rules_of S) (group_at S l) (mark (rules_of S) j) (λ k. (j.verdict k).factor) ++ totals 1) (totals 2) ys
    ∙ append_assoc (joined places (at S l j i)) (totals 1) (totals 2 ++ ys) in
    rw (joins, line_there S l j i h v (totals 1 ++ totals 2 ++ ys)) (reads (rules_of S) small (day_of i) (mark (rules_of S) j i) (group_at S l (group_of i)) (j.verdict i) _)
  where
    totals : (e : ℕ) → List ℕ
    totals e = totals_bytes e (tally (rules_of S) j.grouping (mark (rules_of S) j) e places)

pub each_line : (S C : List ℕ) → is_listed S C ≡ true → EachLine S C
each_line S C listed p t i h v =
    let l = layout S in
    let j : Judged = month S C p in
    let cell : j.verdict i ≡ cell_verdict S C p i
    = ap (λ b. cond b (cell_verdict S C p i) not_judged) (on_place is_violation refl (ltb (group_of i) l.groups && (terms S l).in_effect (day_of i)) _ v) in
    subst (λ (v : Verdict). LineIs (rules_of S) (line_shown S C p i) (day_of i) (group_at S l (group_of i)) (mark (rules_of S) j i) v) cell
    (rw (run S C listed p (no_cause S C listed p t)).output (line_read S l (rules-dollars S (opens S p.book p.opened).schedule) j i h v (drop (length (statement_bytes S l j)) p.output)))
