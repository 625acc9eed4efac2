-- New orders have the factor 0, and 3 times each of several counts is 3 times their sum.
use Prim.Native.Nat.{ℕ}
use mathlib.Core.List.{List}
use native.Mathlib.Omega.{arith}
use Rattle.activity.specs.Laws.{ScoreGains}

pub score_gains : (R : List ℕ) → ScoreGains R
score_gains R = omega arith
