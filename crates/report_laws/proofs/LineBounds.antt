-- How long a number and a line can be.
use Prim.Native.Nat.{ℕ, zero, suc, ◌/◌, ◌^◌, ◌≤◌, ◌<◌}
use mathlib.Core.Bool.{Bool, true, false}
use mathlib.Core.List.{List}
use mathlib.Core.Path.{◌≡◌, refl}
use native.Mathlib.Omega.{arith}
use lib.Dec.{ltb, lit≤}
use lib.ListN.{length, length-append}
use borrow.Author.Tests.{ltb-true, ltb-false}
use Rattle.io.specs.Digits.{last_digits}
use Rattle.wire.proofs.Choose.{sought_in, choose_most}
use Rattle.text.specs.Text.{digit_count, decimal}
use Rattle.statement.specs.Layout.{line_day, line_mark, line_dollars}
use Rattle.statement.specs.Layout.{totals_grouping, totals_violations, totals_monthly, totals_automatic, totals_granted, totals_billed, totals_dollars}
use Rattle.text.specs.Lines.{refused_at, heading, refused_line, mark_word, counts, violation_line, totals_line}

-- k digits are k bytes
digits_length : (b k n : ℕ) → length (last_digits b k n) ≡ k
digits_length b zero n = refl
digits_length b (suc k) n = rw length-append (omega (arith, digits_length b k (n / b)))

-- a number has at most 20 digits
decimal_most : (n : ℕ) → length (decimal n) ≤ 20
unfolding decimal
decimal_most n = rw digits_length (sought_in 19 1 (λ k. ltb n (10 ^ k))).most

-- and one below 100 at most two
decimal_two : (n : ℕ) → n < 100 → length (decimal n) ≤ 2
unfolding decimal
decimal_two n h = rw digits_length (go (ltb 2 (digit_count n)) refl)
  where
    go : (b : Bool) → ltb 2 (digit_count n) ≡ b → digit_count n ≤ 2
    go true e = absurd (omega (arith, ltb-false n 100 ((sought_in 19 1 (λ k. ltb n (10 ^ k))).missed 2 (omega arith) (ltb-true _ _ e))))
    go false e = ltb-false 2 (digit_count n) e

-- the line of a refused schedule or book
pub refused_at_most : (n o : ℕ) → length (refused_at n o) ≤ 53
unfolding refused_at
refused_at_most n o = simp length-append (omega (arith, decimal_most n, decimal_most o))

-- the heading
pub heading_most : (n : ℕ) → length (heading n) ≤ 25
unfolding heading
heading_most n = simp length-append (omega (arith, decimal_most n))

-- the line of a refusal, of any number
pub refused_most : (n : ℕ) → length (refused_line n) ≤ 29
unfolding refused_line
refused_most n = simp length-append (omega (arith, decimal_most n))

-- and of one below 100
pub refused_two : (n : ℕ) → n < 100 → length (refused_line n) ≤ 11
unfolding refused_line
refused_two n h = simp length-append (omega (arith, decimal_two n h))

-- the longest word of a mark is "automatic"
word_most : (m : ℕ) → length (mark_word m) ≤ 9
unfolding mark_word
word_most m = choose_most length 9 _ refl (lit≤ tt)

-- C is a firm's code
module _ (C : List ℕ) (three : length C ≡ 3) where
  -- the line of a violation
  pub violation_most : (L : List ℕ) → length (violation_line C L) ≤ 59
  unfolding violation_line
  violation_most L = simp length-append (omega (arith, decimal_most (line_day L), word_most (line_mark L), decimal_most (line_dollars L)))

  -- the line of a grouping's totals
  pub totals_most : (T : List ℕ) → length (totals_line C T) ≤ 161
  unfolding totals_line counts
  totals_most T =
      let grouping = decimal_most (totals_grouping T) in
      let violations = decimal_most (totals_violations T) in
      let monthly = decimal_most (totals_monthly T) in
      let automatic = decimal_most (totals_automatic T) in
      let granted = decimal_most (totals_granted T) in
      let billed = decimal_most (totals_billed T) in
      let dollars = decimal_most (totals_dollars T) in
      simp length-append (omega arith)
