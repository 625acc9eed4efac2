-- The sums over the days held once a new day is stored: with it, and without the oldest where twenty were held. Nothing wraps on the way.
use Rattle.std.proofs.Common.{true, false, ◌≡◌, length, map, arith}
use mathlib.Core.Path.{sym, ap, ◌∙◌}
use Rattle.std.specs.Cmp.{second_so}
use Rattle.wire.specs.Choose.{all}
use Rattle.wire.proofs.Lists.{length-table}
use Rattle.rules.specs.Verdict.{fits}
use Rattle.rules.specs.declared.Totals.{Totals}
use Rattle.window.specs.Window.{most_days, summed, held, is_full, stored}
use Rattle.window.specs.Laws.{HasPlaces}
use Rattle.window.specs.Parts.{Within, Holds, Taken, with_day, without_day}
use Rattle.window.specs.declared.Window.{Window}
use Rattle.window.specs.declared.WindowSums.{WindowSums}
use Rattle.window.proofs.Ring.{oldest, later, held_behind, held_full, held_rest}
use Rattle.window.proofs.Sums.{summed_push, summed_rest, holds_first, within_most}

module _ (w : Window) (t : Totals) (taken : Taken w t) where
  pub length_held : length (held w) ≡ w.count
  unfolding held
  length_held = length-table _ w.count

  pub held_within : Within most_days (summed (held w))
  held_within = within_most (held w) taken.days (rw length_held taken.placed.count)

  -- fewer than twenty are held
  pub sums_behind : HasPlaces w → is_full w ≡ false → summed (held (stored w t)) ≡ with_day (summed (held w)) t
  sums_behind places e = ap summed (held_behind w t taken.placed places e) ∙ summed_push (held w) t

  -- twenty are held
  module _ (e : is_full w ≡ true) where
    pub holds_oldest : Holds (summed (held w)) (oldest w)
    holds_oldest = rw (held_full w e) (holds_first (oldest w) (later w))

    without : without_day (summed (held w)) (oldest w) ≡ summed (later w)
    without = ap (λ ts. without_day (summed ts) (oldest w)) (held_full w e) ∙ summed_rest (oldest w) (later w)

    pub rest_within : Within most_days (without_day (summed (held w)) (oldest w))
    unfolding all
    rest_within =
        let fit = ap (λ ts. all (map (fits 1) ts)) (sym (held_full w e)) ∙ taken.days in
        rw without (within_most (later w) (second_so (fits 1 (oldest w)) (all (map (fits 1) (later w))) fit) (rw length-table (omega arith)))

    pub sums_rest : HasPlaces w → summed (held (stored w t)) ≡ with_day (without_day (summed (held w)) (oldest w)) t
    sums_rest places =
        ap summed (held_rest w t taken.placed places e) ∙ summed_push (later w) t ∙ ap (λ (s : WindowSums). with_day s t) (sym without)
