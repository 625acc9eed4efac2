-- An answer that is no refusal tells that the group is listed, the day the month's and the month taken; and its place is that day's and that group's.
use Prim.Native.Nat.{ℕ, ◌<◌}
use mathlib.Core.Bool.{Bool, true, false, cond}
use mathlib.Core.List.{List}
use mathlib.Core.Path.{◌≡◌, refl, sym, ◌∙◌}
use native.Mathlib.Omega.{arith}
use lib.Dec.{eqb}
use lib.ListN.{length}
use borrow.Author.Tests.{ltb-true, eqb-true, not-false}
use Rattle.wire.specs.Choose.{choose}
use Rattle.wire.proofs.Bools.{range}
use Rattle.wire.proofs.Choose.{passed, sought}
use Rattle.calendar.specs.Calendar.{days_in, has_day}
use Rattle.calendar.proofs.Laws.{days_most}
use Rattle.rules.specs.Marks.{group_of}
use Rattle.refusals.specs.Outcome.{Outcome, refused, good, follow, asked}
use Rattle.lookup.specs.Lookup.{group_is, group_listed, group_place}
use Rattle.lookup.specs.declared.Layout.{Layout}
use Rattle.schedule.specs.Check.{check_of}
use Rattle.refusals.proofs.Outcomes.{refused-good}
use Rattle.schedule.proofs.Good.{good-schedule}
use Rattle.schedule.proofs.Found.{group-code}
use Rattle.book.specs.Book.{check_book}
use Rattle.book.proofs.Checked.{sized}
use Rattle.grants.specs.Month.{granted_answer}
use Rattle.grants.proofs.Answers.{granted-book}
use Rattle.reason.specs.Beside.{Reason}
use Rattle.reason.specs.Reason.{reason_at, place_of, unknown_causes, reason_answer}
use Rattle.reason.specs.Laws.{PlaceIs}

-- what an answer that is no refusal tells
pub record Answered (S B C : List ℕ) (day : ℕ) (code G : List ℕ) (s : Reason) : Type 0 where
  pub l : Layout
  pub checked : check_book S (length B) ≡ good l
  pub holds : granted_answer S B C G ≡ good l
  pub listed : group_listed S l code ≡ true
  pub known : has_day l.month day ≡ true
  pub is : s ≡ reason_at S B C G l (place_of S day code l)

-- what the call comes to after 15 and 16
abbrev rest : (S B C : List ℕ) (day : ℕ) (code G : List ℕ) → Outcome Layout → Outcome Reason
rest S B C day code G x = follow x (λ l. good (reason_at S B C G l (place_of S day code l)))

module _ (S B C : List ℕ) (day : ℕ) (code G : List ℕ) {s : Reason} where
  month_taken : {l : Layout} → check_book S (length B) ≡ good l → choose (unknown_causes S day code l) 0 ≡ 0
      → (x : Outcome Layout) → granted_answer S B C G ≡ x → rest S B C day code G x ≡ good s → Answered S B C day code G s
  month_taken e z (refused n o) m q = absurd (refused-good q)
  month_taken {l} e z (good k) m q =
      let p = passed (unknown_causes S day code l) refl z in
      let checked : good k ≡ good l = sym (granted-book S B C G m) ∙ e in
      let same : k ≡ l = cc in
      let is : reason_at S B C G k (place_of S day code k) ≡ s = cc in
      record {
        l = l;
        checked = e;
        holds = m ∙ checked;
        listed = not-false (group_listed S l code) p.0;
        known = not-false (has_day l.month day) p.1.0;
        is = rw (← same) (sym is);
      }

  none_unknown : {l : Layout} → check_book S (length B) ≡ good l → (b : Bool) → eqb (choose (unknown_causes S day code l) 0) 0 ≡ b
      → cond b (rest S B C day code G (granted_answer S B C G)) (refused (choose (unknown_causes S day code l) 0) 0) ≡ good s → Answered S B C day code G s
  none_unknown e true z q = month_taken e (eqb-true _ 0 z) (granted_answer S B C G) refl q
  none_unknown e false z q = absurd (refused-good q)

  by_check : (x : Outcome Layout) → check_book S (length B) ≡ x → follow x (λ l. asked (unknown_causes S day code l) (rest S B C day code G (granted_answer S B C G))) ≡ good s
      → Answered S B C day code G s
  by_check (refused n o) e q = absurd (refused-good q)
  by_check (good l) e q = none_unknown e _ refl q

  pub answered : reason_answer S B C day code G ≡ good s → Answered S B C day code G s
  unfolding reason_answer
  answered e = by_check (check_book S (length B)) refl e

-- its place
module _ (S B C : List ℕ) (day : ℕ) (code G : List ℕ) {s : Reason} (a : Answered S B C day code G s) where
  pub found : group_place S a.l code < a.l.groups
  unfolding group_listed
  found = ltb-true _ _ a.listed

  pub placed : PlaceIs S a.l day code (place_of S day code a.l)
  placed =
      let g = group_place S a.l code in
      let i = place_of S day code a.l in
      let r = range 1 (days_in a.l.month) day a.known in
      let m = days_most a.l.month in
      let checked : check_of S ≡ good a.l = (sized S (length B) a.checked).schedule in
      let few = (good-schedule S checked).few_groups in
      let group : group_of i ≡ g = omega (arith, found) in
      let has : group_is S a.l.first code g ≡ true = (sought a.l.groups (group_is S a.l.first code)).found (omega (arith, found)) in
      record {
        inside = omega (arith, found);
        day_is = omega (arith, found);
        listed = rw group found;
        code_is = rw group (group-code S checked code g found has);
      }
