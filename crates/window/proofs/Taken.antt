-- What 36 asks, in the order of the code; and what a day that it refuses, a day without messages and any other make of a window.
use Rattle.std.proofs.Common.{◌-◌, Bool, true, false, cond, not, ◌&&◌, ◌||◌, ◌≡◌, map, leb, Some, None}
use mathlib.Core.Path.{refl, sym, ◌∙◌}
use borrow.Author.Tests.{leb-true, not-true, not-false}
use Rattle.std.specs.Cmp.{first_so, second_so}
use Rattle.wire.specs.Choose.{choose, all}
use Rattle.wire.proofs.Bools.{ltb-leb}
use Rattle.std.proofs.lemmas.Bool.{or_right}
use Rattle.rules.specs.Verdict.{fits}
use Rattle.rules.specs.declared.Totals.{Totals}
use Rattle.refusals.specs.Outcome.{refused, good}
use Rattle.window.specs.Window.{most_days, summed, has_messages, held, is_refused, stored, window_after, push_answer}
use Rattle.window.specs.Parts.{is_placed, Taken, checked_sums}
use Rattle.window.proofs.Checked.{checked_none, checked_some}
use Rattle.window.specs.declared.WindowSums.{WindowSums}
use Rattle.window.specs.declared.Window.{Window}

module _ (w : Window) (t : Totals) where
  abbrev pub days_fit : Bool
  days_fit = all (map (fits 1) (held w))

  pub refused_is : is_refused w t ≡ not ((fits 1 t && is_placed w) && days_fit)
  unfolding is_refused all
  refused_is = rw (ltb-leb w.count most_days, ltb-leb w.oldest (most_days - 1)) (go (fits 1 t) days_fit (leb w.count most_days) (leb w.oldest (most_days - 1)))
    where
      go : (p a x y : Bool) → (not (p && a) || (not x || not y)) ≡ not ((p && (x && y)) && a)
      go false a x y = refl
      go true a false y = or_right (not a) true refl
      go true a true false = or_right (not a) true refl
      go true true true true = refl
      go true false true true = refl

  -- what it takes
  pub taken : is_refused w t ≡ false → Taken w t
  taken e =
      let h = not-false ((fits 1 t && is_placed w) && days_fit) (sym refused_is ∙ e) in
      let f = first_so (fits 1 t && is_placed w) days_fit h in
      let p = second_so (fits 1 t) (is_placed w) f in
      record {
        placed = record {
          count = leb-true w.count most_days (first_so (leb w.count most_days) (leb w.oldest (most_days - 1)) p);
          oldest = leb-true w.oldest (most_days - 1) (second_so (leb w.count most_days) (leb w.oldest (most_days - 1)) p);
        };
        day = first_so (fits 1 t) (is_placed w) f;
        days = second_so (fits 1 t && is_placed w) days_fit h;
      }

  -- a refused day
  pub answer_refused : is_refused w t ≡ true → push_answer w t ≡ refused 36 0
  unfolding push_answer choose
  answer_refused e = rw e

  pub after_refused : is_refused w t ≡ true → window_after w t ≡ w
  unfolding window_after
  after_refused e = rw e

  -- a day without messages
  pub after_idle : has_messages t ≡ false → window_after w t ≡ w
  unfolding window_after
  after_idle e = rw e (go (is_refused w t))
    where
      go : (b : Bool) → cond (not b && false) (stored w t) w ≡ w
      go true = refl
      go false = refl

  -- and any other
  pub answer_good : is_refused w t ≡ false → push_answer w t ≡ good (summed (held (window_after w t)))
  unfolding push_answer choose
  answer_good e = rw e

  pub after_stored : is_refused w t ≡ false → has_messages t ≡ true → window_after w t ≡ stored w t
  unfolding window_after
  after_stored e h = rw (e, h)

  -- what `checked_sums` tells
  pub none_held : checked_sums w t ≡ None → is_refused w t ≡ true
  none_held e = not-false (is_refused w t) (checked_none (not (is_refused w t)) (summed (held w)) e)

  pub some_held : (r : WindowSums) → checked_sums w t ≡ Some r → (is_refused w t ≡ false) × (r ≡ summed (held w))
  some_held r e =
      let s = checked_some (not (is_refused w t)) (summed (held w)) r e in
      (not-true (is_refused w t) s.0, s.1)
