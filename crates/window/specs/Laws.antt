-- What a window answers after any list of days, and what any window becomes (document 02, 2.8). Proved in proofs/Laws.antt, of all lists, windows and
-- days.
-- Assumes nothing.
use Rattle.std.specs.Prelude.{ℕ, ◌-◌, ◌≤◌, Bool, true, false, not, ◌&&◌, List, [], ◌∷◌, ◌++◌, ◌≡◌, length, drop}
use mathlib.Core.List.{foldl}
use Rattle.wire.specs.Lists.{keep}
use Rattle.rules.specs.Verdict.{verdict, fits, is_benchmark, decided, days_verdict}
use Rattle.rules.specs.declared.Rules.{Rules}
use Rattle.rules.specs.declared.Totals.{Totals}
use Rattle.refusals.specs.Outcome.{good}
use Rattle.window.specs.Window.{most_days, empty, summed, has_messages, held, is_refused, window_after, push_answer}
use Rattle.window.specs.declared.Window.{Window}
use Rattle.window.specs.declared.WindowSums.{WindowSums}

-- the last n items of a list, or all of them if fewer
abbrev pub last : {A : Type 0} → (n : ℕ) → List A → List A
last n xs = drop (length xs - n) xs

-- a window has a number for each place, as the struct's arrays have
pub record HasPlaces (w : Window) : Type 0 where
  pub raw : length w.raw ≡ most_days
  pub score : length w.score ≡ most_days
  pub lots : length w.lots ≡ most_days

-- 2.8: any empty window, whatever stands at its places
pub record IsEmpty (w : Window) : Type 0 where
  pub none : w.count ≡ 0
  pub oldest : w.oldest ≤ most_days - 1
  pub places : HasPlaces w

-- the window after a list of days
abbrev pub pushed : Window → List Totals → Window
pushed w days = foldl window_after w days

-- 2.8: a day that was accepted with raw above zero. After any days from an empty window exactly the days with no total above 10,000,000,000 are accepted
-- (`refused`, of each day and the list before it)
abbrev pub is_counted : Totals → Bool
is_counted t = fits 1 t && has_messages t

-- 2.8: the last twenty counted days of a list, or all of those if fewer
abbrev pub last_counted : List Totals → List Totals
last_counted days = last most_days (keep is_counted days)

-- 2.8: after every list of days, refused ones and days with raw zero among them, from an empty window w
pub record AfterDays (w : Window) (days : List Totals) : Type 0 where
  -- the days held are the last twenty counted
  pub held_days : held (pushed w days) ≡ last_counted days
  -- a new day is refused exactly when a total of it is above the limit
  pub refused : (t : Totals) → is_refused (pushed w days) t ≡ not (fits 1 t)
  -- and is else answered with the sums worked out afresh over the last twenty counted days of the list with it
  pub answered : (t : Totals) → fits 1 t ≡ true → push_answer (pushed w days) t ≡ good (summed (last_counted (days ++ t ∷ [])))

-- 2.8: of any window, whatever its numbers are
pub record AnyWindow (w : Window) (t : Totals) : Type 0 where
  -- a counted day comes behind the days held, and once twenty are held the oldest leaves
  pub held_after : is_refused w t ≡ false → has_messages t ≡ true → held (window_after w t) ≡ last most_days (held w ++ t ∷ [])
  -- the verdict on totals of several days takes the sums that are answered, by any constants and with any benchmark in range
  pub has_verdict : (P : Rules) (h : WindowSums) (B : ℕ) → push_answer w t ≡ good h → is_benchmark B ≡ true
      → days_verdict P h.days h.totals B ≡ decided (verdict P B h.days h.totals)

pub record Laws : Type 0 where
  pub starts_empty : IsEmpty empty
  pub after_days : (w : Window) → IsEmpty w → (days : List Totals) → AfterDays w days
  pub any_window : (w : Window) (t : Totals) → HasPlaces w → AnyWindow w t
