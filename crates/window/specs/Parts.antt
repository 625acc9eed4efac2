-- What the parts of a push promise to each other. The public contract does not cite these.
-- Assumes nothing.
use Rattle.std.specs.Prelude.{ℕ, ◌+◌, ◌-◌, ◌*◌, ◌≤◌, Bool, true, cond, not, ◌&&◌, Option, Some, None, ◌≡◌, leb, map}
use Rattle.wire.specs.Choose.{all}
use Rattle.rules.specs.Verdict.{limit, fits}
use Rattle.rules.specs.declared.Totals.{Totals}
use Rattle.window.specs.Window.{most_days, summed, held, is_refused}
use Rattle.window.specs.declared.Window.{Window}
use Rattle.window.specs.declared.WindowSums.{WindowSums}

-- what 36 asks of the two numbers: a window has places for its days, and its oldest's place is one of them
abbrev pub is_placed : (w : Window) → Bool
is_placed w = leb w.count most_days && leb w.oldest (most_days - 1)

pub record Placed (w : Window) : Type 0 where
  pub count : w.count ≤ most_days
  pub oldest : w.oldest ≤ most_days - 1

-- what 36 does not refuse
pub record Taken (w : Window) (t : Totals) : Type 0 where
  pub placed : Placed w
  pub day : fits 1 t ≡ true
  pub days : all (map (fits 1) (held w)) ≡ true

-- the sums can be those of at most n days, each within the limit
pub record Within (n : ℕ) (h : WindowSums) : Type 0 where
  pub raw : h.totals.raw ≤ n * limit
  pub score : h.totals.score ≤ n * limit
  pub lots : h.totals.lots ≤ n * limit
  pub days : h.days ≤ n

-- the sums hold a day's
pub record Holds (h : WindowSums) (t : Totals) : Type 0 where
  pub raw : t.raw ≤ h.totals.raw
  pub score : t.score ≤ h.totals.score
  pub lots : t.lots ≤ h.totals.lots
  pub days : 1 ≤ h.days

-- the sums with a day more, and with one less
abbrev pub with_day : WindowSums → Totals → WindowSums
with_day h t =
    record {
      totals = record { raw = h.totals.raw + t.raw; score = h.totals.score + t.score; lots = h.totals.lots + t.lots };
      days = h.days + 1;
    }

abbrev pub without_day : WindowSums → Totals → WindowSums
without_day h t =
    record {
      totals = record { raw = h.totals.raw - t.raw; score = h.totals.score - t.score; lots = h.totals.lots - t.lots };
      days = h.days - 1;
    }

-- the sums over the days held, where 36 does not refuse the new day
abbrev pub checked_sums : Window → Totals → Option WindowSums
checked_sums w t = cond (not (is_refused w t)) (Some (summed (held w))) None
