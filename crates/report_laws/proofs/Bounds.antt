-- How long a report can be: no longer than the program's output, whatever the input.
use Prim.Native.Nat.{ℕ, zero, suc, ◌+◌, ◌-◌, ◌*◌, ◌/◌, ◌≤◌, ◌<◌, zero-le}
use mathlib.Core.Bool.{Bool, true, false, cond, not, ◌&&◌, false≢true}
use mathlib.Core.List.{List, [], ◌∷◌}
use mathlib.Core.Path.{◌≡◌, refl, sym, ◌∙◌}
use native.Mathlib.Nat.{le_refl, le_trans, mul-le-mul_left}
use native.Mathlib.Omega.{arith}
use lib.Dec.{ltb, eqb, lit≤}
use lib.ListN.{length, take, drop, length-append, length-drop}
use borrow.Author.Tests.{ltb-true, ltb-false, eqb-false}
use Rattle.wire.specs.Bytes.{u16_at}
use Rattle.wire.specs.Choose.{choose, within}
use Rattle.wire.specs.Cut.{first_length, cut_in, cut}
use Rattle.wire.specs.Lists.{over}
use Rattle.wire.specs.Sums.{count}
use Rattle.wire.proofs.Bools.{range}
use Rattle.wire.proofs.Choose.{small, choose_most}
use Rattle.wire.proofs.Cut.{cut-none}
use Rattle.wire.proofs.Lists.{joined_most}
use Rattle.wire.proofs.Sums.{count_blocks}
use Rattle.lookup.specs.InForce.{rules_of}
use Rattle.rules.specs.Verdict.{not_judged, verdict, is_violation}
use Rattle.rules.specs.Month.{DailyTotals}
use Rattle.rules.specs.Marks.{places, day_of, group_of, no_grants}
use Rattle.records.specs.Fields.{firm_fields}
use Rattle.refusals.specs.Outcome.{Outcome, refused, good, follow, given}
use Rattle.schedule.specs.Check.{check_of}
use Rattle.lookup.specs.Lookup.{group_at}
use Rattle.lookup.specs.declared.Layout.{Layout}
use Rattle.schedule.proofs.Good.{good-schedule}
use Rattle.accepted.specs.Accepted.{posted}
use Rattle.book.specs.Book.{cell_at, check_book, open_book}
use Rattle.filing.specs.Causes.{record_causes, is_counted_record}
use Rattle.cell.specs.Entry.{cell_causes}
use Rattle.book.specs.Post.{index_of, taking, answer_under, post_answer, post_book}
use Rattle.book.specs.declared.posting.Effect.TheVariants as effect
use Rattle.cell.specs.declared.Cell.{Cell}
use Rattle.book.proofs.Checked.{by_room, sized}
use Rattle.statement.specs.Layout.{line_size, totals_size, both_totals, largest}
use Rattle.statement.specs.Statement as statement
use Rattle.month.specs.Month.{terms, month_of, firm_totals}
use Rattle.grants.specs.Month.{granted_month, granted_answer}
use Rattle.grants.proofs.Answers.{granted-book}
use Rattle.statement.specs.Statement.{statement_bytes, need, output_under}
use Rattle.statement.proofs.Shown.{bytes-length}
use Rattle.input.specs.Input.{input_limit, begins_activity, records_from, schedule_of, activity_of}
use Rattle.text.specs.Lines.{too_long, violation_line}
use Rattle.report_laws.proofs.LineBounds.{refused_at_most, heading_most, refused_most, refused_two, violation_most, totals_most}
use Rattle.report.specs.Report.{book_size, zeros, post_line, post_lines, statement_lines, firm_lines, code_of, statement_of}
use Rattle.report.specs.Report.{month_lines, schedule_lines, report}
use Rattle.report.specs.Answer.{output_size}

-- a run has a record for every four bytes at the most, and one for a tail: a record has four bytes or more, or is all the rest
records_most : (fuel : ℕ) (S : List ℕ) → 4 * length (cut_in fuel S) ≤ length S + 3
unfolding cut_in first_length
records_most zero S = omega arith
records_most (suc fuel) S = go (eqb (length S) 0) (within 4 (length S) (u16_at S 0)) refl refl (records_most fuel (drop (first_length S) S))
  where
    rest : List (List ℕ)
    rest = cut_in fuel (drop (first_length S) S)

    go : (b t : Bool) → eqb (length S) 0 ≡ b → within 4 (length S) (u16_at S 0) ≡ t → 4 * length rest ≤ length (drop (first_length S) S) + 3
        → 4 * length (cond b [] (take (first_length S) S ∷ rest)) ≤ length S + 3
    go true t e w ih = omega arith
    go false true e w ih =
        let first : first_length S ≡ u16_at S 0 = rw w in
        omega (arith, range 4 (length S) (u16_at S 0) w, length-drop (first_length S) S)
    go false false e w ih =
        let all : first_length S ≡ length S = rw w in
        let none : rest ≡ [] = cut-none fuel (drop (first_length S) S) (omega (arith, length-drop (first_length S) S)) in
        rw none (omega (arith, eqb-false (length S) 0 e))

-- the activity has no more records than the run
activity_most : (rs : List (List ℕ)) → length (records_from rs) ≤ length rs
unfolding records_from
activity_most [] = le_refl 0
activity_most (R ∷ rs) = go (begins_activity R) (activity_most rs)
  where
    go : (b : Bool) → length (records_from rs) ≤ length rs → length (cond b (R ∷ rs) (records_from rs)) ≤ length (R ∷ rs)
    go true ih = le_refl _
    go false ih = omega arith

-- C is a firm's code
module _ (C : List ℕ) (three : length C ≡ 3) where
  -- the lines of a statement with v violations
  statement_most : (R : List ℕ) (v bytes : ℕ) → bytes ≡ line_size * v + both_totals → length (statement_lines C R bytes) ≤ v * 59 + 322
  unfolding statement_lines
  statement_most R v bytes e =
      let n : (bytes - both_totals) / line_size ≡ v = omega arith in
      let lines = joined_most v 59 (λ i. violation_line C (drop (line_size * i) R)) (λ i. violation_most C three (drop (line_size * i) R)) in
      rw n (simp length-append (omega (arith, totals_most C three (drop (bytes - both_totals) R), totals_most C three (drop (bytes - totals_size) R))))

-- a firm has at most a violation a day in each group: a place past the last group has none
violations_most : (S : List ℕ) (l : Layout) (c : DailyTotals) → count places (λ i. is_violation ((month_of S l c no_grants).verdict i).code) ≤ 31 * l.groups
violations_most S l c = count_blocks (λ i. is_violation ((month_of S l c no_grants).verdict i).code) l.groups (λ i. go i (ltb (group_of i) l.groups) refl) 31
  where
    go : (i : ℕ) (b : Bool) → ltb (group_of i) l.groups ≡ b
        → is_violation (cond (b && (terms S l).in_effect (day_of i)) (verdict (rules_of S) (group_at S l (group_of i)).benchmark 1 (c (group_of i) (day_of i))) not_judged).code ≡ true
        → group_of i < l.groups
    go i true e v = ltb-true _ _ e
    go i false e v = absurd (false≢true v)

-- a record has no line, or that of its first cause, whose number has two digits at the most
taking_most : (S : List ℕ) (l : Layout) (c : Cell) (R : List ℕ) → length (post_line (taking S l c R)) ≤ 11
unfolding taking
taking_most S l c R = go (eqb first 0) (is_counted_record S l R) (eqb second 0)
  where
    first : ℕ
    first = choose (record_causes S l R) 0

    second : ℕ
    second = choose (cell_causes c R) 0

    most : (cs : List (Bool × ℕ)) → small (λ n. n) 99 cs ≡ true → length (post_line (refused (choose cs 0) 0)) ≤ 11
    most cs e = refused_two (choose cs 0) (omega (arith, choose_most (λ n. n) 99 cs e zero-le))

    go : (x k y : Bool) → length (post_line (cond x (cond (not k) (good effect.Outside) (cond y (good effect.Counted) (refused second 0))) (refused first 0))) ≤ 11
    go true true true = zero-le
    go true true false = most (cell_causes c R) refl
    go true false y = zero-le
    go false k y = most (record_causes S l R) refl

-- so many bytes a firm's lines have at the most
abbrev firm_most : Layout → ℕ
firm_most l = 31 * l.groups * 59 + 322

module _ (S : List ℕ) {l : Layout} (e : check_of S ≡ good l) where
  -- a post has no line, or that of 8, or the record's
  post_most : (B R : List ℕ) → length (post_line (post_answer S B R)) ≤ 11
  post_most B R =
      by_room S (length B) e (λ c. length (post_line (follow c (answer_under S B R))) ≤ 11) (refused_two 8 (lit≤ tt))
      (λ h. taking_most S l (cell_at B (index_of S l R)) R)

  -- a list of posts has a line for each at the most
  posts_most : (B : List ℕ) (rs : List (List ℕ)) → length (post_lines S B rs) ≤ 11 * length rs
  unfolding post_lines
  posts_most B [] = zero-le
  posts_most B (R ∷ rs) = rw length-append (omega (arith, post_most B R, posts_most (post_book S B R) rs))

  -- a firm has its statement's lines, or that of a refusal
  firm-most : (B : List ℕ) (f : ℕ) → length (statement_of S l B f) ≤ firm_most l
  unfolding statement_of firm_fields
  firm-most B f = go (granted_answer S B C []) refl
    where
      C : List ℕ
      C = code_of S l f

      out : List ℕ
      out = zeros largest

      by : (b : Bool)
          → length (firm_lines C (cond b out (over (statement_bytes S l (granted_month S B C [] l)) out)) (cond b (refused 23 0) (good (length (statement_bytes S l (granted_month S B C [] l)))))) ≤ firm_most l
      by true = le_trans (refused_most 23) (omega arith)
      by false =
          let j = granted_month S B C [] l in
          let v = count places (λ i. is_violation (j.verdict i).code) in
          omega (arith, violations_most S l (firm_totals S B C l), statement_most C refl (over (statement_bytes S l j) out) v _ (bytes-length S l j))

      go : (x : Outcome Layout) → granted_answer S B C [] ≡ x → length (firm_lines C (given x out (output_under S B C [] out)) (follow x (statement.answer_under S B C [] out))) ≤ firm_most l
      go (refused n o) q = le_trans (refused_most n) (omega arith)
      go (good k) q =
          let same : k ≡ l = let h = sym (sized S (length B) (granted-book S B C [] q)).schedule ∙ e in cc in
          rw same (by (ltb (length out) (need (granted_month S B C [] l))))

-- a month has its heading, and the lines of its posts and firms: the book holds 124 numbers for each group of each firm, so these are at most 66
month_most : (S : List ℕ) {l : Layout} → check_book S book_size ≡ good l → (rs : List (List ℕ)) → length (month_lines S l rs) ≤ 141991 + 11 * length rs
unfolding month_lines
month_most S {l} c rs =
    let z = sized S book_size c in
    let B = open_book S (zeros book_size) in
    let end = posted S B rs in
    let each : l.firms * 1 ≤ l.firms * l.groups = mul-le-mul_left l.firms (good-schedule S z.schedule).some_group in
    let firms = joined_most l.firms (firm_most l) (statement_of S l end) (firm-most S z.schedule end) in
    simp length-append (omega (arith, heading_most l.month, posts_most S z.schedule B rs))

-- no report is longer than the program's output
module _ (I : List ℕ) where
  abbrev S : List ℕ
  S = schedule_of I

  abbrev rs : List (List ℕ)
  rs = activity_of I

  pub fits : length (report I) ≤ output_size
  unfolding report
  fits = go (ltb input_limit (length I)) refl
    where
      by : (c : Outcome Layout) → check_book S book_size ≡ c → length I ≤ input_limit → length (schedule_lines S rs c) ≤ output_size
      by (refused n o) e h = le_trans (refused_at_most n o) (lit≤ tt)
      by (good l) e h = omega (arith, month_most S e rs, activity_most (cut I), records_most (length I) I)

      go : (b : Bool) → ltb input_limit (length I) ≡ b → length (cond b too_long (schedule_lines S rs (check_book S book_size))) ≤ output_size
      go true e = lit≤ tt
      go false e = by (check_book S book_size) refl (ltb-false _ _ e)
