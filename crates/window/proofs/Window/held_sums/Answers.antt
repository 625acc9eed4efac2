-- Each turn puts a day behind those before it, which are all within the limit, so that no sum overflows. A day above it is one of those held.
use Rattle.std.proofs.Common.{◌≡◌, ℕ, true, [], ◌∷◌, Some, map, arith}
use mathlib.Core.Path.{refl, sym, ap, ◌∙◌}
use Rattle.wire.specs.Choose.{all}
use Rattle.wire.specs.Lists.{joined, table}
use Rattle.wire.proofs.Lists.{joined_more, length-table}
use Rattle.rules.specs.Verdict.{fits}
use Rattle.rules.specs.declared.Totals.{Totals}
use Rattle.window.specs.Window.{held_day, summed, held}
use Rattle.window.proofs.Checked.{checked_none, checked_some}
use Rattle.window.proofs.Lists.{table_more, table_fails}
use Rattle.window.proofs.Sums.{summed_push, within_most}
use Rattle.window.proofs.Window.held_sums.Goals as goal

pub loop-i-init : goal.loop-i-init
unfolding all joined
loop-i-init c =
    let e = c.default-sums.ensures in
    record { fit = refl; summed = rw (e.0.0, e.0.1.0, e.0.1.1, e.1) refl }

pub with_day-sums-requires-clause-within : goal.with_day-sums-requires-clause-within
with_day-sums-requires-clause-within c = rw c.loop-i.invariant.summed (within_most _ c.loop-i.invariant.fit (rw length-table (omega (arith, c.requires.count))))

pub loop-i-preserved : goal.loop-i-preserved
loop-i-preserved c =
    let w = c.args.self.now in
    let f = held_day w in
    let i = c.loop-i.i in
    let t = c.in_ok-checked_day.field-0 in
    let d = checked_some (fits 1 (f i)) (f i) t (sym c.checked_day.ensures ∙ c.in_ok-checked_day.was) in
    record {
      fit = table_more (fits 1) f i c.loop-i.invariant.fit d.0;
      summed = rw (c.with_day-sums.ensures, c.loop-i.invariant.summed, d.1, joined_more (λ i. f i ∷ []) i) (sym (summed_push (table i f) (f i)));
    }

pub with_day-sums-requires-clause-day : goal.with_day-sums-requires-clause-day
with_day-sums-requires-clause-day c =
    let w = c.args.self.now in
    let d : Totals = held_day w c.loop-i.i in
    let s = checked_some (fits 1 d) d c.in_ok-checked_day.field-0 (sym c.checked_day.ensures ∙ c.in_ok-checked_day.was) in
    rw s.1 s.0

pub returns-in_err-checked_day : goal.returns-in_err-checked_day
unfolding held
returns-in_err-checked_day c =
    let w = c.args.self.now in
    let f = held_day w in
    let e = checked_none (fits 1 (f c.loop-i.i)) (f c.loop-i.i) (sym c.checked_day.ensures ∙ c.in_err-checked_day.was) in
    rw (c.from_residual.ensures, table_fails (fits 1) f w.count c.loop-i.i c.loop-i-test.true e) refl

pub returns : goal.returns
unfolding held
returns c =
    let w = c.args.self.now in
    let f = held_day w in
    let n : c.loop-i.i ≡ w.count = omega (arith, c.loop-i-test.false, c.loop-i.auto.i-end) in
    let e : all (map (fits 1) (held w)) ≡ true = ap (λ (k : ℕ). all (map (fits 1) (table k f))) (sym n) ∙ c.loop-i.invariant.fit in
    rw e (ap Some (c.loop-i.invariant.summed ∙ ap (λ (k : ℕ). summed (table k f)) n))
