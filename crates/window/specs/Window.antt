-- The last twenty counted days of one firm in one group (document 02, 2.8). `Window` and `WindowSums` are the structs of src/lib.rt; w is a window, t a
-- new day's totals. `push` promises `push_answer` and `window_after`, `Window::new` promises `empty`.
-- Assumes nothing.
use Rattle.std.specs.Prelude.{ℕ, ◌+◌, ◌-◌, ◌%◌, Bool, cond, not, ◌&&◌, ◌||◌, List, [], ◌∷◌, ltb, eqb, map, length, get_or, set, replicate}
use Rattle.std.specs.List.{sum_by}
use Rattle.wire.specs.Choose.{all}
use Rattle.wire.specs.Lists.{table}
use Rattle.rules.specs.Verdict.{fits}
use Rattle.rules.specs.declared.Totals.{Totals}
use Rattle.refusals.specs.Outcome.{Outcome, good, asked}
use Rattle.window.specs.declared.Window.{Window}
use Rattle.window.specs.declared.WindowSums.{WindowSums}

-- 2.8: twenty days
abbrev pub most_days : ℕ
most_days = 20

-- 2.8: the empty window that `Window::new` makes
abbrev pub empty : Window
empty =
    let zeros = replicate most_days 0 in
    record { raw = zeros; score = zeros; lots = zeros; count = 0; oldest = 0 }

-- 2.8: the sums over a list of days, and their number
abbrev pub summed : List Totals → WindowSums
summed ts =
    record {
      totals = record { raw = sum_by (λ t. t.raw) ts; score = sum_by (λ t. t.score) ts; lots = sum_by (λ t. t.lots) ts };
      days = length ts;
    }

-- 2.8: a day with raw above zero
abbrev pub has_messages : Totals → Bool
has_messages t = ltb 0 t.raw

module _ (w : Window) where
  -- the day at a place
  abbrev pub day_at : (place : ℕ) → Totals
  day_at p = record { raw = get_or w.raw p 0; score = get_or w.score p 0; lots = get_or w.lots p 0 }

  -- 2.8: the days held stand from the oldest's place on, place 0 following 19. The place of day i, from 0, and the day there
  abbrev pub place_of : (i : ℕ) → ℕ
  place_of i = (w.oldest + i) % most_days

  abbrev pub held_day : (i : ℕ) → Totals
  held_day i = day_at (place_of i)

  -- 2.8: the days held, the oldest first
  unfoldable pub held : List Totals
  held = table w.count held_day

  -- 2.8: twenty days are held
  abbrev pub is_full : Bool
  is_full = eqb w.count most_days

  module _ (t : Totals) where
    -- 2.8, refused: 36 a total above 10,000,000,000 in the new day or a day held, or a window with more than 20 days or its oldest place above 19
    unfoldable pub is_refused : Bool
    is_refused = not (all (map (fits 1) (t ∷ held))) || (ltb most_days w.count || ltb (most_days - 1) w.oldest)

    -- 2.8: a new day arrives, the oldest leaves once twenty are held. The new day takes the first place behind the days held. With twenty held that is the
    -- oldest's, and the oldest's place moves on by one; with fewer the count grows by one. Every other number stays
    unfoldable pub stored : Window
    stored =
        let p = place_of w.count in
        record {
          raw = set w.raw p t.raw;
          score = set w.score p t.score;
          lots = set w.lots p t.lots;
          count = cond is_full w.count (w.count + 1);
          oldest = cond is_full (place_of 1) w.oldest;
        }

    -- 2.8: a refused day, or one with raw zero, leaves the window as it is
    unfoldable pub window_after : Window
    window_after = cond (not is_refused && has_messages t) stored w

-- 2.8: the sums over the days held after the new day, and their number; or 36
unfoldable pub push_answer : (w : Window) → (t : Totals) → Outcome WindowSums
push_answer w t = asked ((is_refused w t, 36) ∷ []) (good (summed (held (window_after w t))))
