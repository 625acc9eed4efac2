-- What a report shows of a firm. Its statement is not refused: the book was opened, the firm is listed, and the output has room for a line on every
-- place. So demand 3 without grants says what its totals are.
use Prim.Native.Nat.{ℕ, ◌+◌, ◌-◌, ◌*◌, ◌/◌, ◌≤◌, ◌<◌}
use mathlib.Core.Bool.{true}
use mathlib.Core.List.{List, [], ◌++◌}
use mathlib.Core.Path.{◌≡◌, refl, sym}
use native.Mathlib.Nat.{le_refl}
use native.Mathlib.Omega.{arith}
use lib.ListN.{length, drop, length-replicate}
use borrow.Author.Tests.{le-ltb}
use Rattle.wire.specs.Lists.{joined}
use Rattle.wire.proofs.Choose.{some_at}
use Rattle.wire.proofs.Sums.{count_most}
use Rattle.rules.specs.Verdict.{is_violation}
use Rattle.rules.specs.Marks.{places, Judged, violations, marked}
use Rattle.rules.specs.declared.Rules.{Rules}
use Rattle.std.proofs.lemmas.Slice.Eq.{bytes_eq-Decides}
use Rattle.records.specs.Fields.{has_code}
use Rattle.refusals.specs.Outcome.{refused, good}
use Rattle.lookup.specs.Lookup.{firm_is, firm_listed}
use Rattle.lookup.specs.InForce.{rules_of}
use Rattle.lookup.specs.declared.Layout.{Layout}
use Rattle.refusals.proofs.Outcomes.{refused-good}
use Rattle.book.specs.Book.{check_book, open_answer, open_book}
use Rattle.accepted.specs.Accepted.{of_bytes, posted}
use Rattle.book.proofs.Checked.{sized}
use Rattle.grants.specs.Month.{granted_month, granted_answer}
use Rattle.grants.proofs.Answers.{none-refused, is_taken}
use Rattle.statement.specs.Layout.{line_size, totals_size, both_totals, largest}
use Rattle.statement.specs.Statement.{need, statement_answer}
use Rattle.guarantee.specs.Demand3.{is_listed, month_after, Run, output_of, TotalsAre, after_lines}
use Rattle.guarantee.proofs.Demand3.{judged_after, without_grants}
use Rattle.text.specs.Lines.{counts, violation_line, totals_line}
use Rattle.report.specs.Report.{book_size, zeros, statement_lines, code_of, statement_of}
use Rattle.report_laws.specs.Laws.{month_totals, FirmShown}

-- so many zeros are so many numbers
zeros-length : (n : ℕ) → length (zeros n) ≡ n
unfolding zeros
zeros-length n = length-replicate n 0

-- a firm has its own code
own_code : (S : List ℕ) (l : Layout) (f : ℕ) → firm_is S l.start (code_of S l f) f ≡ true
unfolding firm_is has_code
own_code S l f = let code = code_of S l f in (bytes_eq-Decides code code).1 refl

-- a month's statement needs no more than largest bytes
need_most : (j : Judged) → need j ≤ largest
need_most j = omega (arith, count_most places (λ i. is_violation (j.verdict i).code))

-- an output that has room for every place is not refused by 23
enough : (S B C out : List ℕ) (l : Layout) → granted_answer S B C [] ≡ good l → largest ≤ length out → statement_answer S B C [] out ≡ refused 23 0 → ⊥
enough S B C out l e h w =
    let j = granted_month S B C [] l in
    let t = le-ltb (length out) (need j) (omega (arith, need_most j)) in
    refused-good (sym (rw t at (rw e at w)))

-- a firm's own code is listed
own-listed : (S : List ℕ) (l : Layout) (f : ℕ) → f < l.firms → firm_listed S l (code_of S l f) ≡ true
unfolding firm_listed
own-listed S l f h = some_at l.firms (firm_is S l.start (code_of S l f)) f h (own_code S l f)

-- under any rules P
module _ (P : Rules) where
  -- totals that stand in a statement are printed as those of the month
  totals_shown : (C T : List ℕ) (e : ℕ) (j : Judged) → marked P j e 5 ≡ 0 → TotalsAre P T e j → totals_line C T ≡ month_totals P C e j
  unfolding totals_line counts
  totals_shown C T e j none t = rw (t.grouping, t.violations_are, t.monthly_are, t.automatic_are, t.granted_are, none, t.billed_are, t.dollars_are)

  -- the lines of a statement whose totals are those of the month
  lines_shown : (C R : List ℕ) (j : Judged) → ((e : ℕ) → marked P j e 5 ≡ 0) → TotalsAre P (drop (after_lines j) R) 1 j → TotalsAre P (drop (after_lines j + totals_size) R) 2 j
      → statement_lines C R (after_lines j + both_totals)
      ≡ joined (violations j 1 + violations j 2) (λ i. violation_line C (drop (line_size * i) R)) ++ month_totals P C 1 j ++ month_totals P C 2 j
  unfolding statement_lines
  lines_shown C R j none t u =
      let n : (after_lines j + both_totals - both_totals) / line_size ≡ violations j 1 + violations j 2 = omega arith in
      let one : after_lines j + both_totals - both_totals ≡ after_lines j = omega arith in
      let two : after_lines j + both_totals - totals_size ≡ after_lines j + totals_size = omega arith in
      rw (n, one, two, totals_shown C (drop (after_lines j) R) 1 j (none 1) t, totals_shown C (drop (after_lines j + totals_size) R) 2 j (none 2) u)

-- after any list of posts each of the month's firms has its violations and totals
pub firm_shown : (S : List ℕ) {l : Layout} → check_book S book_size ≡ good l → (rs : List (List ℕ)) → of_bytes rs ≡ true → (f : ℕ) → f < l.firms
    → FirmShown S l rs f
unfolding statement_of
firm_shown S {l} e rs bytes f h =
    let good-schedule = (sized S book_size e).schedule in
    let C : List ℕ = code_of S l f in
    let B : List ℕ = posted S (open_book S (zeros book_size)) rs in
    let listed : is_listed S C ≡ true = rw good-schedule (own-listed S l f h) in
    let opened : open_answer S (zeros book_size) ≡ good tt = rw (zeros-length, e) in
    let judged = judged_after S C l good-schedule (zeros book_size) rs bytes (own-listed S l f h) opened (rw zeros-length (sized S book_size e).room) in
    let p : Run S C =
    record {
      book = zeros book_size;
      posts = rs;
      grants = [];
      output = zeros largest;
      opened = opened;
      bytes = bytes;
      enough = enough S B C (zeros largest) l (is_taken S B C [] judged (none-refused S l)) (rw zeros-length (le_refl _));
    } in
    let w = without_grants S C listed in
    let a = w.adds_up p refl in
    record {
      answer = a.answered;
      shown = rw a.answered (lines_shown (rules_of S) C (output_of S C p) (month_after S C rs []) (w.none_granted p refl) a.first a.second);
    }
