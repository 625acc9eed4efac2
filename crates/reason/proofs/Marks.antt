-- A mark is one of six, by a table of the tests that gave it; a mark that is 1 stands at a place that is listed and in effect, and is severe.
use Prim.Native.Nat.{ℕ, ◌≤◌}
use mathlib.Core.Bool.{Bool, true, false, not}
use mathlib.Core.List.{[], ◌∷◌}
use native.Mathlib.Omega.{arith}
use lib.Dec.{ltb}
use Rattle.wire.specs.Choose.{choose}
use Rattle.wire.specs.Sums.{count}
use Rattle.rules.specs.Verdict.{is_violation, is_severe}
use Rattle.rules.specs.Marks.{Judged, left, granted_mark, mark}
use Rattle.rules.specs.declared.Rules.{Rules}

pub data Mark : ℕ → Type 0 where
  none : Mark 0
  severe : Mark 1
  billed : Mark 2
  monthly : Mark 3
  automatic : Mark 4
  granted : Mark 5

pub most_5 : {m : ℕ} → Mark m → m ≤ 5
most_5 none = omega arith
most_5 severe = omega arith
most_5 billed = omega arith
most_5 monthly = omega arith
most_5 automatic = omega arith
most_5 granted = omega arith

by_tests : (v s x w g : Bool) → Mark (granted_mark g (choose ((v, 0) ∷ (s, 1) ∷ (x, 3) ∷ (w, 4) ∷ []) 2))
unfolding choose
by_tests true s x w true = none
by_tests true s x w false = none
by_tests false true x w true = granted
by_tests false true x w false = severe
by_tests false false true w true = monthly
by_tests false false true w false = monthly
by_tests false false false true true = automatic
by_tests false false false true false = automatic
by_tests false false false false true = granted
by_tests false false false false false = billed

pub mark_is : (P : Rules) (j : Judged) (i : ℕ) → Mark (mark P j i)
mark_is P j i =
    by_tests (not (is_violation (j.verdict i).code)) (is_severe (j.verdict i).code) (j.exempt i) (ltb (count i (left j (j.grouping i))) P.waivers) (j.named i)
