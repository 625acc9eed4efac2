-- A reason is true: a mark tells the tests that gave it.
use Prim.Native.Nat.{ℕ, ◌+◌, ◌-◌, ◌≤◌}
use mathlib.Core.Bool.{Bool, true, not}
use mathlib.Core.List.{List, ◌++◌}
use mathlib.Core.Path.{◌≡◌, refl, sym, ap, ◌∙◌}
use native.Mathlib.Omega.{arith}
use lib.Dec.{eqb, ltb}
use borrow.Author.Tests.{ltb-true, ltb-false, eqb-true, eq-eqb, not-true}
use Rattle.std.specs.Cmp.{first_so, second_so}
use Rattle.wire.specs.Sums.{count}
use Rattle.wire.proofs.Counts.{count_rises}
use Rattle.rules.specs.Verdict.{is_violation, is_severe}
use Rattle.rules.specs.Month.{Terms, DailyTotals}
use Rattle.rules.specs.Marks.{places, Judged, left, mark}
use Rattle.rules.specs.declared.Rules.{Rules}
use Rattle.rules.proofs.Marks.{mark_severe, mark_billed, mark_monthly, mark_automatic, mark_granted, mark-none}
use Rattle.lookup.specs.Lookup.{group_at}
use Rattle.lookup.specs.InForce.{rules_of}
use Rattle.month.specs.Month.{terms, firm_totals}
use Rattle.grants.specs.Month.{granted_month}
use Rattle.reason.specs.Beside.{Reason, waiver_shown, waivers_in, waiver_at}
use Rattle.reason.specs.Taken.{TwoTaken, OneTaken, NoneTaken}
use Rattle.reason.specs.Reason.{place_of}
use Rattle.reason.specs.Laws.{is_waiver, day_and_code, NoViolation, SevereIs, MonthlyIs, AutomaticIs, GrantedIs, BilledIs, IsTrue, Laws}
use Rattle.reason.proofs.ByMark.{no-violation, severe-reason, billed-reason, monthly-reason, automatic-reason, granted-reason}
use Rattle.reason.specs.declared.waivers.LastTwo.{LastTwo}
use Rattle.std.specs.Prelude.{Some, None}
use Rattle.reason.proofs.Answered.{Answered, answered, placed}
use Rattle.reason.proofs.Severe.{tier, above_multiple}
use Rattle.reason.proofs.Waived.{waived, waived-count, none_counted, none_last, after_first, two_before, one_before}

module _ (S B C : List ℕ) (day : ℕ) (code G : List ℕ) {s : Reason} (a : Answered S B C day code G s) where
  abbrev i : ℕ
  i = place_of S day code a.l

  abbrev P : Rules
  P = rules_of S

  abbrev c : DailyTotals
  c = firm_totals S B C a.l

  abbrev t : Terms
  t = terms S a.l

  abbrev j : Judged
  j = granted_month S B C G a.l

  abbrev e : ℕ
  e = j.grouping i

  mark-is : s.mark ≡ mark P j i
  mark-is = ap (λ (x : Reason). x.mark) a.is

  -- a mark's test holds
  shows : (n : ℕ) → mark P j i ≡ n → eqb (mark P j i) n ≡ true
  shows n m = eq-eqb (mark P j i) n m

  none_true : mark P j i ≡ 0 → NoViolation S B C G a.l i s.values
  none_true m =
      record {
        nothing_more = ap (λ (x : Reason). x.values) (a.is ∙ no-violation _ _ _ _ _ i m);
        code = not-true (is_violation (j.verdict i).code) (sym (mark-none P j i) ∙ shows 0 m);
      }

  severe_true : mark P j i ≡ 1 → SevereIs S B C G a.l i s.values
  severe_true m =
      let code : is_severe (j.verdict i).code ≡ true = first_so (is_severe (j.verdict i).code) _ (sym (mark_severe P j i) ∙ shows 1 m) in
      let m-is = tier P t c j.named i code in
      let above = ltb-true _ _ (above_multiple P t c j.named i code) in
      record {
        sides = ap (λ (x : Reason). x.values) (a.is ∙ severe-reason _ _ _ _ _ i m) ∙ rw m-is refl;
        above = rw m-is above;
      }

  monthly_true : mark P j i ≡ 3 → MonthlyIs S B C G a.l i s.values
  monthly_true m =
      record {
        shown = ap (λ (x : Reason). x.values) (a.is ∙ monthly-reason _ _ _ _ _ i m);
        exempt = second_so (eqb (j.verdict i).code 4) _ (sym (mark_monthly P j i) ∙ shows 3 m);
      }

  automatic_true : mark P j i ≡ 4 → AutomaticIs S B C G a.l i s.values
  automatic_true m =
      let tests = second_so (eqb (j.verdict i).code 4) _ (sym (mark_automatic P j i) ∙ shows 4 m) in
      let free = ltb-true (count i (left j e)) P.waivers (second_so (not (j.exempt i)) _ tests) in
      let n : count i (waived P j e) ≡ count i (left j e) = omega (arith, free, waived-count P j e i) in
      record { number = ap (λ (x : Reason). x.values) (a.is ∙ automatic-reason _ _ _ _ _ i m) ∙ rw n refl }

  granted_true : mark P j i ≡ 5 → GrantedIs S B C G a.l i s.values
  granted_true m =
      let tests = sym (mark_granted P j i) ∙ shows 5 m in
      record {
        nothing_more = ap (λ (x : Reason). x.values) (a.is ∙ granted-reason _ _ _ _ _ i m);
        named = first_so (j.named i) _ tests;
        would_cost = second_so (j.named i) _ tests;
      }

  -- before a billed line all waivers were taken, and no more are
  none_free : mark P j i ≡ 2 → P.waivers ≤ count i (left j e)
  none_free m =
      let tests = second_so (not (j.exempt i)) _ (second_so (eqb (j.verdict i).code 4) _ (sym (mark_billed P j i) ∙ shows 2 m)) in
      ltb-false (count i (left j e)) P.waivers (not-true (ltb (count i (left j e)) P.waivers) (first_so (not (ltb (count i (left j e)) P.waivers)) _ tests))

  taken_before : mark P j i ≡ 2 → count i (waived P j e) ≡ P.waivers
  taken_before m = omega (arith, none_free m, waived-count P j e i)

  taken_at_all : mark P j i ≡ 2 → count places (waived P j e) ≡ P.waivers
  taken_at_all m =
      let inside = (placed S B C day code G a).inside in
      let rise = count_rises i (places - i) (left j e) in
      let all : i + (places - i) ≡ places = omega arith in
      omega (arith, none_free m, rw all at rise, waived-count P j e places)

  -- a place of the grouping with mark 4 is an automatic line of it, and the other way round
  line_is : (k : ℕ) → waived P j e k ≡ true → (j.grouping k ≡ e) × (mark P j k ≡ 4)
  line_is k q = (eqb-true (j.grouping k) e (first_so (eqb (j.grouping k) e) _ q), eqb-true (mark P j k) 4 (second_so (eqb (j.grouping k) e) _ q))

  is_line : (k : ℕ) → (j.grouping k ≡ e) × (mark P j k ≡ 4) → waived P j e k ≡ true
  is_line k q = rw (eq-eqb (j.grouping k) e q.0, eq-eqb (mark P j k) 4 q.1) refl

  -- the values of a billed line, by the last two automatic lines
  module _ (m : mark P j i ≡ 2) where
    abbrev q : (k : ℕ) → Bool
    q = waived P j e

    abbrev last : LastTwo
    last = waivers_in j.grouping (mark P j) e

    waivers : List ℕ
    waivers = waiver_shown (waiver_at (group_at S a.l) last.first) ++ waiver_shown (waiver_at (group_at S a.l) last.second)

    all : count i q ≡ count places q
    all = taken_before m ∙ sym (taken_at_all m)

    shown_by : (two : LastTwo) → two ≡ last → waivers ≡ waiver_shown (waiver_at (group_at S a.l) two.first) ++ waiver_shown (waiver_at (group_at S a.l) two.second)
    unfolding waivers
    shown_by two s = rw s refl

    two_taken : 2 ≤ P.waivers → TwoTaken places i (is_waiver S B C G a.l i) (day_and_code S B C G a.l) waivers
    two_taken h =
        let w = two_before places q i all (rw (taken_at_all m) h) in
        record {
          a = w.a;
          b = w.b;
          codes = shown_by (record { first = Some w.a; second = Some w.b }) (rw (w.last_is.is, w.first_is.is) refl);
          first = line_is w.a w.first_is.holds;
          second = line_is w.b w.last_is.holds;
          earlier = w.first_is.inside;
          before = w.before;
          no_other = λ k l o t. after_first places q w.first_is w.last_is k l o (is_line k t);
        }

    one_taken : P.waivers ≡ 1 → OneTaken places i (is_waiver S B C G a.l i) (day_and_code S B C G a.l) waivers
    one_taken h =
        let w = one_before places q i all (taken_at_all m ∙ h) in
        record {
          a = w.a;
          codes = shown_by (record { first = Some w.a; second = None }) (rw (w.last_is.is, w.none_before) refl);
          first = line_is w.a w.last_is.holds;
          before = w.before;
          no_other = λ k l t. w.only k l (is_line k t);
        }

    none_taken : P.waivers ≡ 0 → NoneTaken places i (is_waiver S B C G a.l i) (day_and_code S B C G a.l) waivers
    none_taken h =
        let zero : count places q ≡ 0 = taken_at_all m ∙ h in
        record {
          codes = shown_by (record { first = None; second = None }) (rw (none_last places q zero) refl);
          no_other = λ k l t. none_counted places q zero k l (is_line k t);
        }

    billed_true : BilledIs S B C G a.l i s.values
    unfolding waivers
    billed_true =
        let tests = second_so (eqb (j.verdict i).code 4) _ (sym (mark_billed P j i) ∙ shows 2 m) in
        record {
          waivers = waivers;
          shown = ap (λ (x : Reason). x.values) (a.is ∙ billed-reason _ _ _ _ _ i m refl refl refl);
          fails = not-true (j.exempt i) (first_so (not (j.exempt i)) _ tests);
          taken = record { two = two_taken; one = one_taken; none = none_taken };
        }

  is-true : IsTrue S B C day code G s
  is-true =
      record {
        l = a.l;
        i = i;
        holds = a.holds;
        place = placed S B C day code G a;
        mark_is = mark-is;
        none = λ m. none_true (sym mark-is ∙ m);
        severe = λ m. severe_true (sym mark-is ∙ m);
        billed = λ m. billed_true (sym mark-is ∙ m);
        monthly = λ m. monthly_true (sym mark-is ∙ m);
        automatic = λ m. automatic_true (sym mark-is ∙ m);
        granted = λ m. granted_true (sym mark-is ∙ m);
      }

pub laws : (S B C : List ℕ) (day : ℕ) (code G : List ℕ) → Laws S B C day code G
laws S B C day code G s e = is-true S B C day code G (answered S B C day code G e)
