-- What the call comes to: the first of 1 to 8, 37, 38, 15 and 16; then the refusal of the month, or the reason for its place.
use Prim.Native.Nat.{ℕ, ◌+◌, ◌-◌, ◌*◌, ◌<◌}
use mathlib.Core.Bool.{true, false, not}
use mathlib.Core.List.{List}
use mathlib.Core.Path.{◌≡◌, sym, ap, ◌∙◌}
use native.Mathlib.Omega.{arith}
use lib.ListN.{length}
use Rattle.wire.specs.Choose.{choose}
use Rattle.wire.proofs.Choose.{here, next, done, chosen}
use Rattle.wire.proofs.Bools.{range}
use Rattle.calendar.specs.Calendar.{days_in, has_day}
use Rattle.calendar.proofs.Laws.{days_most}
use Rattle.rules.specs.Marks.{most_groups, places}
use Rattle.refusals.specs.Outcome.{refused, good}
use Rattle.lookup.specs.Lookup.{group_listed}
use Rattle.lookup.specs.declared.Layout.{Layout}
use Rattle.schedule.proofs.Good.{good-schedule}
use Rattle.book.specs.Book.{check_book}
use Rattle.book.proofs.Checked.{sized}
use Rattle.grants.specs.Month.{granted_answer}
use Rattle.grants.proofs.Answers.{granted-book}
use Rattle.reason.specs.Beside.{Reason}
use Rattle.reason.specs.Reason.{reason_at, place_of, unknown_causes, reason_answer}

-- a day of the month and a listed group have a place
pub inside : (S : List ℕ) (numbers : ℕ) {l : Layout} → check_book S numbers ≡ good l → (day g : ℕ) → g < l.groups → has_day l.month day ≡ true
    → (day - 1) * most_groups + g < places
inside S numbers {l} e day g h known =
    let r = range 1 (days_in l.month) day known in
    let m = days_most l.month in
    let few = (good-schedule S (sized S numbers e).schedule).few_groups in
    omega arith

module _ (S B C : List ℕ) (day : ℕ) (code G : List ℕ) where
  -- 1 to 8, 37, 38
  pub is-refused : {n o : ℕ} → check_book S (length B) ≡ refused n o → reason_answer S B C day code G ≡ refused n o
  unfolding reason_answer
  is-refused e = rw e

  module _ {l : Layout} (e : check_book S (length B) ≡ good l) where
    pub is_15 : group_listed S l code ≡ false → reason_answer S B C day code G ≡ refused 15 0
    unfolding reason_answer
    is_15 h =
        let n : choose (unknown_causes S day code l) 0 ≡ 15 = chosen (here (ap not h)) in
        rw (e, n)

    module _ (listed : group_listed S l code ≡ true) where
      pub is_16 : has_day l.month day ≡ false → reason_answer S B C day code G ≡ refused 16 0
      unfolding reason_answer
      is_16 h =
          let n : choose (unknown_causes S day code l) 0 ≡ 16 = chosen (next (ap not listed) (here (ap not h))) in
          rw (e, n)

      module _ (known : has_day l.month day ≡ true) where
        none_unknown : choose (unknown_causes S day code l) 0 ≡ 0
        none_unknown = chosen (next (ap not listed) (next (ap not known) done))

        -- 21, 22, 34 and 35
        pub is-month : {n o : ℕ} → granted_answer S B C G ≡ refused n o → reason_answer S B C day code G ≡ refused n o
        unfolding reason_answer
        is-month m = rw (e, none_unknown, m)

        is-good : {k : Layout} → granted_answer S B C G ≡ good k → reason_answer S B C day code G ≡ good (reason_at S B C G k (place_of S day code k))
        unfolding reason_answer
        is-good m = rw (e, none_unknown, m)

        pub is-reason : {k : Layout} {s : Reason} → granted_answer S B C G ≡ good k → s ≡ reason_at S B C G k (place_of S day code l) → reason_answer S B C day code G ≡ good s
        is-reason {k} m q =
            let checked : good k ≡ good l = sym (granted-book S B C G m) ∙ e in
            let same : k ≡ l = cc in
            is-good m ∙ sym (ap good (q ∙ ap (λ (x : Layout). reason_at S B C G k (place_of S day code x)) (sym same)))
