-- Demand 3, and days off. From an opened book a listed firm's cells are its accepted totals, which fit, so that only its grants and 23 can refuse its statement: the
-- bytes are those of the month after the list. The amount falls by the rules' law of days off; demand 3 takes none. Totals are read back as they were written, each number being small enough; the rules' laws add
-- them up; and the firm's own posts alone make its accepted totals. What 34 and 35 say of grants goes by the schedule alone.
use Prim.Native.Nat.{ℕ, zero, suc, ◌+◌, ◌*◌, ◌≤◌, ◌<◌}
use mathlib.Core.Bool.{Bool, true, false, not, ◌&&◌, and-true, and-false, false≢true}
use mathlib.Core.List.{List, [], ◌++◌, append_assoc}
use mathlib.Core.Logic.{⊎_elim}
use mathlib.Core.Path.{◌≡◌, refl, sym, ap, ap₂, subst, ◌∙◌}
use native.Mathlib.Omega.{arith}
use lib.Dec.{eqb, leb, ltb}
use lib.ListN.{length, take, drop, length-append}
use lib.Seq.{take_at, drop_at}
use borrow.Author.Tests.{ltb-true}
use Rattle.wire.specs.Bytes.{u16_at, u32_at, u16_bytes}
use Rattle.wire.specs.Choose.{choose, seek_in, within}
use Rattle.wire.specs.Lists.{over}
use Rattle.wire.specs.Sums.{bit, count}
use Rattle.wire.proofs.Bytes.{u16_again, u32_again}
use Rattle.wire.proofs.Choose.{none_some}
use Rattle.wire.proofs.Sums.{sum_same, sum_add, count_most}
use Rattle.calendar.specs.Calendar.{days_in}
use Rattle.rules.specs.Verdict.{is_violation}
use Rattle.rules.specs.Month.{DailyTotals}
use Rattle.rules.specs.Marks.{places, day_of, group_of, Judged, is_billed, granted_mark, mark_without_grants, mark, violations, marked, billed, amount}
use Rattle.rules.specs.Lighter.{one_day_off}
use Rattle.rules.proofs.Lighter.{no_day_off, none_off}
use Rattle.rules.proofs.Bills.{none_granted, adds_up, dollars}
use Rattle.rules.specs.declared.Rules.{Rules}
use native.Mathlib.Nat.{mul-le-mul}
use Rattle.refusals.specs.Outcome.{Outcome, refused, good, follow}
use Rattle.std.specs.Prelude.{Some}
use Rattle.lookup.specs.Lookup.{group_at, firm_place, firm_listed, firm_found}
use Rattle.schedule.specs.Check.{check_of}
use Rattle.lookup.specs.InForce.{rules_of}
use Rattle.schedule.proofs.Found.{rules-dollars, rules-laws}
use Rattle.lookup.specs.declared.Layout.{Layout}
use Rattle.refusals.proofs.Outcomes.{refused-good, good_is}
use Rattle.cell.specs.Cell.{FirmCells, cell_totals}
use Rattle.book.specs.Book.{size, check_book, open_answer, open_book}
use Rattle.accepted.specs.Accepted.{accepted_cells, accepted, own, of_bytes, posted}
use Rattle.book.proofs.Checked.{Sized, sized, book-good}
use Rattle.accepted.proofs.Laws.{laws as book_laws}
use Rattle.month.specs.Month.{terms, month_of, any_excess, firm_cells, month_answer}
use Rattle.month.specs.Parts.{ListedAt, Grouped}
use Rattle.month.proofs.Answers.{is_judged}
use Rattle.month.proofs.Waivers.{month_grouped, one_or_two}
use Rattle.grants.specs.Grants.{grants_causes, named}
use Rattle.grants.specs.Month.{granted_month, granted_answer}
use Rattle.grants.proofs.Answers.{ComesTo, taken, by_34, by_35, comes_to, none-refused, is_34_35, is_taken}
use Rattle.statement.specs.Layout.{line_size, totals_size, both_totals, violations_at, monthly_at, automatic_at, granted_at, billed_at}
use Rattle.statement.specs.Layout.{totals_violations, totals_monthly, totals_automatic, totals_granted, totals_billed}
use Rattle.statement.specs.Lines.{totals_bytes, lines, having, tally, shown}
use Rattle.statement.specs.Statement.{statement_bytes, need, statement_answer, statement_output}
use Rattle.statement.proofs.Answers.{is-refused}
use Rattle.statement.proofs.Shown.{lines_length, mark_some, marks-count, bytes-length}
use Rattle.guarantee.specs.Demand3.{layout, is_listed, totals_after, month_after, amount_after, Run, answer_of, output_of, month, amount_of, GrantsTaken}
use Rattle.guarantee.specs.Demand3.{SameGrants, TotalsAre, after_lines, AddsUp, DollarsFall, SameStatement, Demand3, Under96, SameBytes, WithoutGrants}
use Rattle.guarantee.specs.DayOff.{FallsWithDaysOff, OneDayOff, DaysOff}

-- the totals of a month, read back, whatever stands behind them
module _ (P : Rules) (small : P.dollars ≤ 10000) (ys : List ℕ) (e : ℕ) (j : Judged) where
  amount_small : amount P j e < 4294967296
  amount_small =
      let few = count_most places (λ i. eqb (j.grouping i) e && is_billed (mark P j i)) in
      omega (arith, dollars P j e, mul-le-mul small few)

  totals : List ℕ
  totals = totals_bytes e (tally P j.grouping (mark P j) e places) ++ ys

  abbrev such : (ℕ → Bool) → ℕ
  such is_such = having P j.grouping (mark P j) e places is_such

  -- a count of places that stands at k
  such_there : (k : ℕ) (is_such : ℕ → Bool) → u16_at totals k ≡ u16_at (u16_bytes (such is_such)) 0 → u16_at totals k ≡ such is_such
  such_there k is_such q =
      q ∙ u16_again (such is_such) [] (omega (arith, count_most places (λ i. eqb (j.grouping i) e && is_such (mark P j i))))

  -- the counted marks are those of the violations
  such_violations : such (λ m. not (eqb m 0)) ≡ violations j e
  such_violations = sum_same places _ _ (λ i l. ap (λ b. bit (eqb (j.grouping i) e && b)) (mark_some P j i))

  totals_are : TotalsAre P totals e j
  unfolding totals tally u32_at u16_at
  totals_are =
      let v : totals_violations totals ≡ violations j e = such_there violations_at (λ m. not (eqb m 0)) refl ∙ such_violations in
      let m : totals_monthly totals ≡ marked P j e 3 = such_there monthly_at (λ m. eqb m 3) refl in
      let a : totals_automatic totals ≡ marked P j e 4 = such_there automatic_at (λ m. eqb m 4) refl in
      let g : totals_granted totals ≡ marked P j e 5 = such_there granted_at (λ m. eqb m 5) refl in
      let b : totals_billed totals ≡ billed P j e = such_there billed_at is_billed refl in
      record {
        length = refl;
        kind = refl;
        grouping = refl;
        zero = refl;
        adds = v ∙ adds_up P j e ∙ sym (ap₂ ◌+◌ (ap₂ ◌+◌ (ap₂ ◌+◌ m a) g) b);
        violations_are = v;
        monthly_are = m;
        automatic_are = a;
        granted_are = g;
        billed_are = b;
        dollars_are = u32_again (amount P j e) [] amount_small;
      }

-- a violation is counted in one of two groupings, where it is of just one
one_bit : (v a b : Bool) → (v ≡ true → bit a + bit b ≡ 1) → bit v ≡ bit (a && v) + bit (b && v)
one_bit true a b h = rw (and-true a, and-true b) (sym (h refl))
one_bit false a b h = rw (and-false a, and-false b)

one_of : (x : ℕ) → within 1 2 x ≡ true → bit (eqb x 1) + bit (eqb x 2) ≡ 1
one_of x w = ⊎_elim (λ p. rw p) (λ p. rw p) (one_or_two x w)

-- the bytes of a month whose violations are all of the grouping 1 or 2
module _ (S : List ℕ) (l : Layout) (small : (rules_of S).dollars ≤ 10000) (j : Judged) (grouped : Grouped j) where
  abbrev P : Rules
  P = rules_of S

  in_groupings : count places (λ i. is_violation (j.verdict i).code) ≡ violations j 1 + violations j 2
  in_groupings =
      sum_same places _ _ (λ i h.
      one_bit (is_violation (j.verdict i).code) (eqb (j.grouping i) 1) (eqb (j.grouping i) 2) (λ v. one_of (j.grouping i) (grouped i h v)))
      ∙ sum_add places (λ i. bit (eqb (j.grouping i) 1 && is_violation (j.verdict i).code)) (λ i. bit (eqb (j.grouping i) 2 && is_violation (j.verdict i).code))

  abbrev front : List ℕ
  front = lines P (group_at S l) (mark P j) (λ i. (j.verdict i).factor)

  lines_end : length front ≡ after_lines j
  lines_end = lines_length P (group_at S l) (mark P j) _ places ∙ ap (λ (n : ℕ). line_size * n) (marks-count P j ∙ in_groupings)

  bytes_end : length (statement_bytes S l j) ≡ after_lines j + both_totals
  bytes_end = bytes-length S l j ∙ ap (λ (n : ℕ). line_size * n + both_totals) in_groupings

  abbrev totals_of : (e : ℕ) → List ℕ
  totals_of e = totals_bytes e (tally P j.grouping (mark P j) e places)

  -- each totals record stands behind what comes before it
  totals_behind : (xs ys : List ℕ) (e : ℕ) {bs : List ℕ} {at : ℕ} → bs ≡ xs ++ (totals_of e ++ ys) → length xs ≡ at → TotalsAre P (drop at bs) e j
  unfolding totals
  totals_behind xs ys e {bs} {at} b a = rw (b, drop_at xs (totals_of e ++ ys) at a) (totals_are P small ys e j)

  first-totals : (ys : List ℕ) → TotalsAre P (drop (after_lines j) (statement_bytes S l j ++ ys)) 1 j
  unfolding shown
  first-totals ys =
      totals_behind front (totals_of 2 ++ ys) 1
      (append_assoc (front ++ totals_of 1) (totals_of 2) ys ∙ append_assoc front (totals_of 1) (totals_of 2 ++ ys))
      lines_end

  second-totals : (ys : List ℕ) → TotalsAre P (drop (after_lines j + totals_size) (statement_bytes S l j ++ ys)) 2 j
  unfolding shown
  second-totals ys =
      totals_behind (front ++ totals_of 1) ys 2
      (append_assoc (front ++ totals_of 1) (totals_of 2) ys)
      (length-append front (totals_of 1) ∙ ap (λ (n : ℕ). n + totals_size) lines_end)

-- what a statement of the month j comes to that nothing refuses
pub record Written (S B C G out : List ℕ) (l : Layout) (j : Judged) : Type 0 where
  pub answer : statement_answer S B C G out ≡ good (length (statement_bytes S l j))
  pub output : statement_output S B C G out ≡ over (statement_bytes S l j) out

-- where 1 to 8, 37, 38, 21, 22, 34 and 35 do not refuse, the statement is written, if 23 does not
module _ (S B C G out : List ℕ) (l : Layout) (judged : granted_answer S B C G ≡ good l) where
  written : (statement_answer S B C G out ≡ refused 23 0 → ⊥) → Written S B C G out l (granted_month S B C G l)
  written enough = go (ltb (length out) (need (granted_month S B C G l))) refl
    where
      go : (b : Bool) → ltb (length out) (need (granted_month S B C G l)) ≡ b → Written S B C G out l (granted_month S B C G l)
      go true t = absurd (enough (rw (judged, t)))
      go false t = record { answer = rw (judged, t); output = rw (judged, t) }

-- a book that open takes: the schedule is good, and the book has the numbers that it asks for
pub opens : (S B : List ℕ) → open_answer S B ≡ good tt → Sized S (length B) (layout S)
opens S B = by (check_book S (length B)) refl
  where
    by : (r : Outcome Layout) → check_book S (length B) ≡ r → follow r (λ l. good (tt {0})) ≡ good tt → Sized S (length B) (layout S)
    by (refused n o) q w = absurd (refused-good w)
    by (good l) q w = let s = sized S (length B) q in rw s.schedule s

-- the place of a listed firm
module _ (S C : List ℕ) (l : Layout) (listed : firm_listed S l C ≡ true) where
  place_inside : firm_place S l C < l.firms
  unfolding firm_listed
  place_inside = ltb-true _ _ listed

  place_found : firm_found S l C ≡ Some (firm_place S l C)
  unfolding firm_found
  place_found = rw listed

-- of a good schedule
module _ (S C : List ℕ) (l : Layout) (e : check_of S ≡ good l) where
  -- accepted totals and editions are not refused by 22, as they are within the limit
  no_excess : (rs : List (List ℕ)) → of_bytes rs ≡ true → (f : ℕ) → any_excess l (accepted_cells S rs f) ≡ false
  unfolding any_excess
  no_excess rs bytes f =
      none_some places _ (λ i h.
      let fine = (book_laws S e).limited rs bytes f (group_of i) (day_of i) in
      rw (fine, and-false (leb (day_of i) (days_in l.month))))

  module _ (B : List ℕ) (rs : List (List ℕ)) (bytes : of_bytes rs ≡ true) (listed : firm_listed S l C ≡ true) (opened : open_answer S B ≡ good tt)
      (room : size l ≤ length B) where
    abbrev after : List ℕ
    after = posted S (open_book S B) rs

    held : firm_cells S after C l ≡ accepted_cells S rs (firm_place S l C)
    held = (book_laws S e).held B rs (firm_place S l C) opened (place_inside S C l listed)

    -- after any list from an opened book a listed firm's month is not refused
    pub judged_after : month_answer S after C ≡ good l
    judged_after =
        let at : ListedAt S l after C (firm_place S l C)
        = record { checked = book-good S (length after) e (rw (book_laws S e).kept room); listed = listed; place = refl } in
        is_judged S after C l (firm_place S l C) at (ap (any_excess l) held ∙ no_excess rs bytes (firm_place S l C))

    module _ (G out : List ℕ) where
      -- grants that 34 or 35 refuses refuse its statement
      not_taken : {n : ℕ} → choose (grants_causes S l G) 0 ≡ n → (n ≡ 0 → ⊥) → statement_answer S after C G out ≡ refused n 0
      not_taken c z = sym (is-refused S after C G out (is_34_35 S after C G judged_after c z)).answer

      -- else it is that of its accepted totals and its grants
      stated : choose (grants_causes S l G) 0 ≡ 0 → (statement_answer S after C G out ≡ refused 23 0 → ⊥)
          → Written S after C G out l (month_of S l (accepted S rs (firm_place S l C)) (named S l C G))
      stated c enough =
          subst (λ (x : FirmCells). Written S after C G out l (month_of S l (cell_totals x) (named S l C G))) held
          (written S after C G out l (is_taken S after C G judged_after c) enough)

-- the bytes of a firm's statement after a list
abbrev bytes_after : (S C : List ℕ) → (rs : List (List ℕ)) → (G : List ℕ) → List ℕ
bytes_after S C rs G = statement_bytes S (layout S) (month_after S C rs G)

module _ (S C : List ℕ) (listed : is_listed S C ≡ true) where
  -- what its grants come to
  abbrev cause_of : Run S C → ℕ
  cause_of p = choose (grants_causes S (layout S) p.grants) 0

  -- the same grants come to the same
  cause_same : (p q : Run S C) → p.grants ≡ q.grants → cause_of q ≡ cause_of p
  cause_same p q g = ap (λ (G : List ℕ). choose (grants_causes S (layout S) G) 0) (sym g)

  -- grants with a cause refuse its statement
  refused_by : (p : Run S C) {n : ℕ} → cause_of p ≡ n → (n ≡ 0 → ⊥) → answer_of S C p ≡ refused n 0
  refused_by p c z =
      let s = opens S p.book p.opened in
      not_taken S C (layout S) s.schedule p.book p.posts p.bytes listed p.opened s.room p.grants p.output c z

  -- else, after a list, it is that of its accepted totals and its grants
  pub run : (p : Run S C) → cause_of p ≡ 0 → Written S (posted S (open_book S p.book) p.posts) C p.grants p.output (layout S) (month S C p)
  run p c =
      let s = opens S p.book p.opened in
      stated S C (layout S) s.schedule p.book p.posts p.bytes listed p.opened s.room p.grants p.output c p.enough

  -- grants that are taken have no cause
  pub no_cause : (p : Run S C) → GrantsTaken S C p → cause_of p ≡ 0
  no_cause p t = go refl (comes_to S (layout S) p.grants)
    where
      go : {n : ℕ} → cause_of p ≡ n → ComesTo n → cause_of p ≡ 0
      go e taken = e
      go e by_34 = absurd (t.not_34 (refused_by p e (λ z. omega (arith, z))))
      go e by_35 = absurd (t.not_35 (refused_by p e (λ z. omega (arith, z))))

  -- and no others have none
  pub no_cause_taken : (p : Run S C) → cause_of p ≡ 0 → GrantsTaken S C p
  no_cause_taken p c =
      record { not_34 = λ e. refused-good (sym e ∙ (run p c).answer); not_35 = λ e. refused-good (sym e ∙ (run p c).answer) }

  -- what it leaves behind its bytes
  abbrev rest : Run S C → List ℕ
  rest p = drop (length (bytes_after S C p.posts p.grants)) p.output

  added : (p : Run S C) → cause_of p ≡ 0 → AddsUp S C p
  added p c =
      let s = opens S p.book p.opened in
      let j : Judged = month S C p in
      let grouped : Grouped j = λ i h. month_grouped S s.schedule (totals_after S C p.posts) i in
      let small = rules-dollars S s.schedule in
      record {
        answered = (run p c).answer ∙ ap good (bytes_end S (layout S) small j grouped);
        first = rw (run p c).output (first-totals S (layout S) small j grouped (rest p));
        second = rw (run p c).output (second-totals S (layout S) small j grouped (rest p));
      }

  bytes_first : (p : Run S C) (n : ℕ) → cause_of p ≡ 0 → length (bytes_after S C p.posts p.grants) ≡ n
      → take n (output_of S C p) ≡ bytes_after S C p.posts p.grants
  bytes_first p n c e = ap (take n) (run p c).output ∙ take_at (bytes_after S C p.posts p.grants) (rest p) n e

  module _ (p q : Run S C) (h : own C p.posts ≡ own C q.posts) (g : p.grants ≡ q.grants) where
    bytes_same : bytes_after S C p.posts p.grants ≡ bytes_after S C q.posts q.grants
    bytes_same =
        let laws = book_laws S (opens S p.book p.opened).schedule in
        let alike : totals_after S C p.posts ≡ totals_after S C q.posts =
        ap cell_totals (laws.own_only C _ p.posts q.posts (place_found S C (layout S) listed) h) in
        ap₂ (λ (c : DailyTotals) (G : List ℕ). statement_bytes S (layout S) (month_of S (layout S) c (named S (layout S) C G))) alike g

    same_bytes : cause_of p ≡ 0 → SameBytes S C p q
    same_bytes c =
        record {
          written = length (bytes_after S C p.posts p.grants);
          first = (run p c).answer;
          second = (run q (cause_same p q g ∙ c)).answer ∙ ap (λ (bs : List ℕ). good (length bs)) (sym bytes_same);
          bytes = bytes_first p _ c refl ∙ bytes_same ∙ sym (bytes_first q _ (cause_same p q g ∙ c) (ap length (sym bytes_same)));
        }

    same_statement : SameStatement S C p q
    same_statement = go (cause_of p) refl
      where
        taken_both : SameBytes S C p q → SameStatement S C p q
        taken_both b =
            record {
              answer = b.first ∙ sym b.second;
              bytes = λ n e. subst (λ (n : ℕ). take n (output_of S C p) ≡ take n (output_of S C q)) (good_is (sym b.first ∙ e)) b.bytes;
            }

        refused_both : (n : ℕ) → cause_of p ≡ n → (n ≡ 0 → ⊥) → SameStatement S C p q
        refused_both n e z =
            let r = refused_by p e z in
            record { answer = r ∙ sym (refused_by q (cause_same p q g ∙ e) z); bytes = λ w a. absurd (refused-good (sym r ∙ a)) }

        go : (n : ℕ) → cause_of p ≡ n → SameStatement S C p q
        go zero e = taken_both (same_bytes e)
        go (suc n) e = refused_both (suc n) e (λ z. cc)

  module _ (p q : Run S C) (off : (g day : ℕ) → Bool) (h : FallsWithDaysOff S C off p.posts q.posts) (g : SameGrants S C p q) where
    lighter : (e : ℕ) → amount_of S C q e ≤ amount_of S C p e
    lighter e =
        let falls = (rules-laws S (opens S p.book p.opened).schedule).off_amount (terms S (layout S)) off (totals_after S C q.posts) (totals_after S C p.posts) in
        subst (λ (G : List ℕ). amount_after S C q.posts G e ≤ amount_of S C p e) g.same (falls (named S (layout S) C p.grants) h g.none_severe e)

    lighter_dollars : DollarsFall S C p q
    lighter_dollars =
        let c = no_cause p g.taken in
        let d = cause_same p q g.same ∙ c in
        record {
          first = rw ((added q d).first.dollars_are, (added p c).first.dollars_are) (lighter 1);
          second = rw ((added q d).second.dollars_are, (added p c).second.dollars_are) (lighter 2);
        }

pub demand3 : (S C : List ℕ) → is_listed S C ≡ true → Demand3 S C
demand3 S C listed =
    record {
      falls = λ p q h. lighter S C listed p q no_day_off (none_off h);
      dollars_fall = λ p q h. lighter_dollars S C listed p q no_day_off (none_off h);
      adds_up = λ p t. added S C listed p (no_cause S C listed p t);
      own_only = same_statement S C listed;
    }

-- any days off
pub days_off : (S C : List ℕ) → is_listed S C ≡ true → (off : (g day : ℕ) → Bool) → DaysOff S C off
days_off S C listed off =
    record { falls = λ p q. lighter S C listed p q off; dollars_fall = λ p q. lighter_dollars S C listed p q off }

-- one in each group
pub one_day : (S C : List ℕ) → is_listed S C ≡ true → OneDayOff S C
one_day S C listed day_of = days_off S C listed (one_day_off day_of)

pub under-96 : (S C : List ℕ) → Under96 S C
unfolding rules_of
under-96 S C = record { in_force = λ e. rw e refl; amount_is = λ e rs G k. rw e refl }

-- no grants are taken, and name no place
module _ (S C : List ℕ) (listed : is_listed S C ≡ true) where
  none_named : (i : ℕ) → named S (layout S) C [] i ≡ false
  unfolding seek_in
  none_named i = refl

  none-cause : (p : Run S C) → p.grants ≡ [] → cause_of S C listed p ≡ 0
  none-cause p e = ap (λ (G : List ℕ). choose (grants_causes S (layout S) G) 0) e ∙ none-refused S (layout S)

  not_granted : (p : Run S C) → p.grants ≡ [] → (i : ℕ) → (month S C p).named i ≡ false
  not_granted p e i = ap (λ (G : List ℕ). named S (layout S) C G i) e ∙ none_named i

  same_none : (p q : Run S C) → p.grants ≡ [] → q.grants ≡ [] → SameGrants S C p q
  same_none p q e f =
      record {
        same = e ∙ sym f;
        taken = no_cause_taken S C listed p (none-cause p e);
        none_severe = λ i l g. absurd (false≢true (sym (not_granted p e i) ∙ g));
      }

  pub without_grants : WithoutGrants S C
  without_grants =
      record {
        same_grants = same_none;
        marks = λ p e i. ap (λ (b : Bool). granted_mark b (mark_without_grants (rules_of S) (month S C p) i)) (not_granted p e i);
        none_granted = λ p e f. none_granted (rules_of S) (month S C p) f (not_granted p e);
        falls = λ p q e f h. lighter S C listed p q no_day_off (none_off h) (same_none p q e f);
        dollars_fall = λ p q e f h. lighter_dollars S C listed p q no_day_off (none_off h) (same_none p q e f);
        adds_up = λ p e. added S C listed p (none-cause p e);
        own_only = λ p q e f h. same_bytes S C listed p q h (e ∙ sym f) (none-cause p e);
      }
