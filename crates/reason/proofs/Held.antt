-- What the arrays of a firm's month say beside its lines is what the month says. The sides of a severe day are there, since its totals are within the
-- limit and its group's benchmark is in range.
use Prim.Native.Nat.{ℕ, ◌+◌, ◌≤◌, ◌<◌}
use mathlib.Core.Bool.{Bool, true, false, ◌&&◌}
use mathlib.Core.List.{List, [], ◌∷◌, ◌++◌}
use mathlib.Core.Path.{◌≡◌, refl, sym, ap, ap₂, ◌∙◌}
use native.Mathlib.Nat.{lt_trans}
use native.Mathlib.Omega.{arith}
use lib.Dec.{eqb, ltb}
use borrow.Author.Tests.{ltb-true, not-false}
use Rattle.std.specs.Cmp.{first_so, second_so}
use Rattle.std.specs.Prelude.{Option, Some, None, Ok}
use Rattle.wire.specs.Choose.{last_below}
use Rattle.wire.specs.Sums.{bit}
use Rattle.wire.proofs.Counts.{last_inside, last_same}
use Rattle.wire.proofs.Sums.{sum_same}
use Rattle.rules.specs.Constants.{clamped}
use Rattle.rules.specs.declared.Rules.{Rules}
use Rattle.rules.specs.Verdict.{is_violation, fits, is_benchmark, is_refused, severe_sides, day_sides}
use Rattle.rules.specs.Marks.{places, day_of, group_of, mark}
use Rattle.rules.specs.declared.Totals.{Totals}
use Rattle.rules.proofs.Marks.{on_place, mark-none}
use Rattle.rules.specs.declared.Sides.{Sides}
use Rattle.records.specs.declared.fields.Group.{Group}
use Rattle.month.specs.declared.days.MonthSums.{MonthSums}
use Rattle.calendar.specs.Calendar.{in_effect}
use Rattle.refusals.specs.Outcome.{good}
use Rattle.lookup.specs.Lookup.{group_at, firm_place}
use Rattle.lookup.specs.InForce.{rules_of}
use Rattle.lookup.specs.declared.Layout.{Layout}
use Rattle.schedule.proofs.Found.{group-listed, rules-clamped}
use Rattle.book.specs.Book.{totals_in}
use Rattle.month.specs.Month.{firm_cells, firm_totals}
use Rattle.month.specs.Parts.{Sound, held_mark}
use Rattle.month.specs.declared.GroupMonth.{GroupMonth}
use Rattle.month.specs.declared.Month.{Month}
use Rattle.month.proofs.Answers.{judged-sound}
use Rattle.month.proofs.Exempt.{cell_fits}
use Rattle.month.proofs.Held.{held-mark, held-group, held-fields}
use Rattle.grants.specs.Grants.{named}
use Rattle.grants.specs.Month.{granted_month, granted_answer, GrantedIs}
use Rattle.grants.proofs.Answers.{granted-judged}
use Rattle.reason.specs.Reason.{sides_at, reason_at}
use Rattle.reason.specs.Parts.{sides_or, held_sides, held_reason}
use Rattle.reason.specs.Beside.{sides_shown, sums_shown, waiver_shown, with_before, two_up_to, last_two, is_automatic, number_at, waivers_in, waiver_at, reason_by}
use Rattle.reason.specs.declared.waivers.LastTwo.{LastTwo}
use Rattle.reason.proofs.Marks.{Mark, none, severe, billed, monthly, automatic, granted, most_5, mark_is}
use Rattle.reason.proofs.ByMark.{no-violation, severe-reason, billed-reason, monthly-reason, automatic-reason, granted-reason, first_inside, second_inside}

-- tests that agree on the first n places have the same last two
module _ (p q : ℕ → Bool) where
  two_same : (n : ℕ) → ((i : ℕ) → i < n → p i ≡ q i) → last_two n p ≡ last_two n q
  two_same n h = go (last_below n q) refl
    where
      go : (o : Option ℕ) → last_below n q ≡ o → two_up_to p (last_below n p) ≡ two_up_to q o
      go None e = ap (two_up_to p) (last_same n p q h ∙ e)
      go (Some k) e =
          ap (two_up_to p) (last_same n p q h ∙ e)
          ∙ ap (with_before k) (last_same k p q (λ i l. h i (lt_trans l (last_inside n q k e))))

module _ (groups groups' : (g : ℕ) → Group) (sums sums' : (g : ℕ) → MonthSums) (sides sides' : (i : ℕ) → Sides) (grouping grouping' marks marks' : (i : ℕ) → ℕ)
    (fields : (k : ℕ) → k < places → groups (group_of k) ≡ groups' (group_of k)) (g : (k : ℕ) → k < places → grouping k ≡ grouping' k)
    (m : (k : ℕ) → k < places → marks k ≡ marks' k) where
  alike : (e : ℕ) (k : ℕ) → k < places → is_automatic grouping marks e k ≡ is_automatic grouping' marks' e k
  alike e k l = rw (g k l, m k l)

  waiver_same : (o : Option ℕ) → ((k : ℕ) → o ≡ Some k → k < places) → waiver_at groups o ≡ waiver_at groups' o
  waiver_same None h = refl
  waiver_same (Some k) h = ap (λ (f : Group). record { day = day_of k; code = f.code }) (fields k (h k refl))

  module _ (i : ℕ) (l : i < places) (s : sums (group_of i) ≡ sums' (group_of i)) (c : marks' i ≡ 1 → sides i ≡ sides' i) where
    number_same : number_at grouping marks i ≡ number_at grouping' marks' i
    number_same =
        rw (g i l) (ap (λ (n : ℕ). n + 1) (sum_same i _ _ (λ k h. ap bit (alike (grouping' i) k (lt_trans h l)))))

    abbrev two : LastTwo
    two = waivers_in grouping' marks' (grouping' i)

    twos : waivers_in grouping marks (grouping i) ≡ two
    twos = rw (g i l) (two_same _ _ places (alike (grouping' i)))

    first : waiver_at groups two.first ≡ waiver_at groups' two.first
    first = waiver_same two.first (first_inside _ places)

    second : waiver_at groups two.second ≡ waiver_at groups' two.second
    second = waiver_same two.second (second_inside _ places)

    by_mark : {n : ℕ} → Mark n → marks i ≡ n → marks' i ≡ n → reason_by groups sums sides grouping marks i ≡ reason_by groups' sums' sides' grouping' marks' i
    by_mark none a b = no-violation _ _ _ _ _ i a ∙ sym (no-violation _ _ _ _ _ i b)
    by_mark severe a b =
        severe-reason _ _ _ _ _ i a ∙ ap (λ (x : Sides). record { mark = 1; values = sides_shown x }) (c b) ∙ sym (severe-reason _ _ _ _ _ i b)
    by_mark billed a b =
        billed-reason _ _ _ _ _ i a (sym twos) (sym first) (sym second)
        ∙ ap (λ (x : MonthSums). record { mark = 2; values = sums_shown x ++ waiver_shown (waiver_at groups' two.first) ++ waiver_shown (waiver_at groups' two.second) }) s
        ∙ sym (billed-reason _ _ _ _ _ i b refl refl refl)
    by_mark monthly a b =
        monthly-reason _ _ _ _ _ i a ∙ ap (λ (x : MonthSums). record { mark = 3; values = sums_shown x }) s ∙ sym (monthly-reason _ _ _ _ _ i b)
    by_mark automatic a b =
        automatic-reason _ _ _ _ _ i a ∙ ap (λ (n : ℕ). record { mark = 4; values = n ∷ [] }) number_same ∙ sym (automatic-reason _ _ _ _ _ i b)
    by_mark granted a b = granted-reason _ _ _ _ _ i a ∙ sym (granted-reason _ _ _ _ _ i b)

    pub reason_same : {n : ℕ} → Mark n → marks' i ≡ n → reason_by groups sums sides grouping marks i ≡ reason_by groups' sums' sides' grouping' marks' i
    reason_same k e = by_mark k (m i l ∙ e) e

-- where 24 does not refuse the day its sides are there
sides_there : (P : Rules) (t : Totals) (B : ℕ) → is_refused 1 t B ≡ false → sides_or (day_sides P t B) ≡ severe_sides P B 1 t
unfolding day_sides
sides_there P t B e = rw e refl

module _ (S B C G : List ℕ) {l : Layout} (e : granted_answer S B C G ≡ good l) where
  sound : Sound S l (firm_cells S B C l)
  sound = judged-sound S B C (granted-judged S B C G e)

  module _ (i : ℕ) (severe_there : mark (rules_of S) (granted_month S B C G l) i ≡ 1) where
    violation : is_violation ((granted_month S B C G l).verdict i).code ≡ true
    violation =
        let m = mark-none (rules_of S) (granted_month S B C G l) i in
        not-false (is_violation ((granted_month S B C G l).verdict i).code) (sym m ∙ ap (λ (n : ℕ). eqb n 0) severe_there)

    on : (ltb (group_of i) l.groups && in_effect l.month l.closed (day_of i)) ≡ true
    on = on_place is_violation refl _ _ violation

    below : group_of i < l.groups
    below = ltb-true (group_of i) l.groups (first_so (ltb (group_of i) l.groups) _ on)

    within : fits 1 (firm_totals S B C l (group_of i) (day_of i)) ≡ true
    within = cell_fits S (firm_cells S B C l) sound (group_of i) (day_of i) (omega arith) (second_so (ltb (group_of i) l.groups) _ on)

    benchmark : is_benchmark (group_at S l (group_of i)).benchmark ≡ true
    benchmark = (group-listed S sound.checked (group_of i) below).benchmark

    taken : is_refused 1 (firm_totals S B C l (group_of i) (day_of i)) (group_at S l (group_of i)).benchmark ≡ false
    taken = rw (within, benchmark) refl

    pub day-sides : sides_or (day_sides (clamped (rules_of S)) (firm_totals S B C l (group_of i) (day_of i)) (group_at S l (group_of i)).benchmark) ≡ sides_at S B C G l i
    day-sides = rw (rules-clamped S sound.checked) (sides_there (rules_of S) _ _ taken)

-- a held month says of a place what the firm's month says
pub held-reason : (S B C G : List ℕ) {m : Month} → GrantedIs S B C G (Ok m) → (i : ℕ) → i < places → held_reason S B m i ≡ reason_at S B C G m.layout i
held-reason S B C G {m} told i h =
    let l = m.layout in
    let f = firm_place S l C in
    let n : (i : ℕ) → Bool = named S l C G in
    let g = held-group S l B f n m told.held in
    let fields = held-fields S l B f n m told.held in
    let same : held_sides S B m i ≡ sides_or (day_sides (clamped (rules_of S)) (firm_totals S B C l (group_of i) (day_of i)) (group_at S l (group_of i)).benchmark)
    = ap₂ (λ (f : ℕ) (x : Group). sides_or (day_sides (clamped (rules_of S)) (totals_in l.groups B f (group_of i) (day_of i)) x.benchmark)) told.held.firm (fields i h) in
    reason_same _ _ _ _ _ _ _ _ _ _ fields (λ k q. ap (λ (x : GroupMonth). x.grouping) (g k q)) (held-mark S l B f n m told.held) i h
    (ap (λ (x : GroupMonth). x.sums) (g i h)) (λ s. same ∙ day-sides S B C G (sym told.answer) i s)
    (mark_is (rules_of S) (granted_month S B C G l) i) refl

-- so no mark is above 5
pub held-most : (S B C G : List ℕ) {m : Month} → GrantedIs S B C G (Ok m) → (i : ℕ) → i < places → held_mark m i ≤ 5
held-most S B C G {m} told i h =
    rw (held-mark S m.layout B (firm_place S m.layout C) (named S m.layout C G) m told.held i h) (most_5 (mark_is (rules_of S) (granted_month S B C G m.layout) i))
