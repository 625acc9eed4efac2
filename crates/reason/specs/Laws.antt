-- A reason is true of book and grants (document 02, 2.7 and 2.9). S is the schedule, l what it holds, B the book, C the firm's code, `code` the group's, G the
-- grants. Proved in proofs/Laws.antt: of all of them, and of every day, wherever the call gives a reason.
-- Assumes nothing.
use Rattle.std.specs.Prelude.{ℕ, ◌+◌, ◌*◌, ◌<◌, Bool, true, false, List, [], ◌∷◌, ◌++◌, ◌≡◌}
use Rattle.wire.specs.Sums.{count}
use Rattle.rules.specs.Verdict.{is_violation}
use Rattle.rules.specs.Month.{days, sums, is_exempt}
use Rattle.rules.specs.Marks.{places, day_of, group_of, Judged, left, is_billed, mark_without_grants, mark}
use Rattle.rules.specs.declared.Rules.{Rules}
use Rattle.rules.specs.declared.Totals.{Totals}
use Rattle.refusals.specs.Outcome.{good}
use Rattle.lookup.specs.Lookup.{group_at}
use Rattle.lookup.specs.InForce.{rules_of}
use Rattle.lookup.specs.declared.Layout.{Layout}
use Rattle.month.specs.Month.{terms, firm_totals}
use Rattle.grants.specs.Month.{granted_month, granted_answer}
use Rattle.reason.specs.Beside.{Reason}
use Rattle.reason.specs.Reason.{reason_answer}
use Rattle.reason.specs.Taken.{Taken}

-- place i is that of the day, and of a listed group with the code
pub record PlaceIs (S : List ℕ) (l : Layout) (day : ℕ) (code : List ℕ) (i : ℕ) : Type 0 where
  pub inside : i < places
  pub day_is : day_of i ≡ day
  pub listed : group_of i < l.groups
  pub code_is : (group_at S l (group_of i)).code ≡ code

module _ (S B C G : List ℕ) (l : Layout) where
  -- the rules in force, and the firm's month with its grants
  abbrev pub P : Rules
  P = rules_of S

  abbrev pub j : Judged
  j = granted_month S B C G l

  -- place k has an automatic line of the exchange grouping of place i
  abbrev pub is_waiver : (i k : ℕ) → Type 0
  is_waiver i k = (j.grouping k ≡ j.grouping i) × (mark P j k ≡ 4)

  -- the day and group code of place k
  abbrev pub day_and_code : (k : ℕ) → List ℕ
  day_and_code k = day_of k ∷ (group_at S l (group_of k)).code

  module _ (i : ℕ) where
    -- the totals of the cell of place i, and its group's benchmark
    abbrev pub cell : Totals
    cell = firm_totals S B C l (group_of i) (day_of i)

    abbrev pub benchmark : ℕ
    benchmark = (group_at S l (group_of i)).benchmark

    -- The month: its group's R, S and V over the counted days, and d, how many these are
    abbrev pub month_sums : Totals
    month_sums = sums (terms S l) (firm_totals S B C l) (group_of i)

    abbrev pub month_days : ℕ
    month_days = days (terms S l) (firm_totals S B C l) (group_of i)

    abbrev pub month_values : List ℕ
    month_values = month_sums.raw ∷ month_sums.score ∷ month_sums.lots ∷ month_days ∷ []

    -- The month: they meet the exemption
    abbrev pub meets : Bool
    meets = is_exempt P benchmark month_days month_sums

    module _ (values : List ℕ) where
      -- 2.7, not a violation: nothing goes with it
      pub record NoViolation : Type 0 where
        pub nothing_more : values ≡ []
        pub code : is_violation (j.verdict i).code ≡ false

      -- 2.7, severe: the two sides are those of its cell, 100 × score and 6 × B × m × lots (2.9: the severe multiple in force in place of 6), m the
      -- factor of its line; and the first is above the second
      pub record SevereIs : Type 0 where
        pub sides : values ≡ 100 * cell.score ∷ P.severe * benchmark * (j.verdict i).factor * cell.lots ∷ []
        pub above : P.severe * benchmark * (j.verdict i).factor * cell.lots < 100 * cell.score

      -- 2.7, monthly exempt: R, S, V and d are the sums over the counted days, and they meet the exemption
      pub record MonthlyIs : Type 0 where
        pub shown : values ≡ month_values
        pub exempt : meets ≡ true

      -- 2.7, automatic: its number is n, and n − 1 ordinary violations of the grouping were left before it
      pub record AutomaticIs : Type 0 where
        pub number : values ≡ (count i (left j (j.grouping i)) + 1) ∷ []

      -- 2.7, granted: a grant names the place, which would cost without it
      pub record GrantedIs : Type 0 where
        pub nothing_more : values ≡ []
        pub named : j.named i ≡ true
        pub would_cost : is_billed (mark_without_grants P j i) ≡ true

      -- 2.7, billed: the sums fail the exemption, and the last two automatic waivers of its grouping are shown after them; 2.9: zeros for each
      -- missing one
      pub record BilledIs : Type 0 where
        pub waivers : List ℕ
        pub shown : values ≡ month_values ++ waivers
        pub fails : meets ≡ false
        pub taken : Taken places i (is_waiver i) day_and_code waivers P.waivers

-- 2.7: the reason r is true of book and grants: it has the mark of its place, and what goes with the mark is so
pub record IsTrue (S B C : List ℕ) (day : ℕ) (code G : List ℕ) (r : Reason) : Type 0 where
  pub l : Layout
  pub i : ℕ
  pub holds : granted_answer S B C G ≡ good l
  pub place : PlaceIs S l day code i
  pub mark_is : r.mark ≡ mark (rules_of S) (granted_month S B C G l) i
  pub none : r.mark ≡ 0 → NoViolation S B C G l i r.values
  pub severe : r.mark ≡ 1 → SevereIs S B C G l i r.values
  pub billed : r.mark ≡ 2 → BilledIs S B C G l i r.values
  pub monthly : r.mark ≡ 3 → MonthlyIs S B C G l i r.values
  pub automatic : r.mark ≡ 4 → AutomaticIs S B C G l i r.values
  pub granted : r.mark ≡ 5 → GrantedIs S B C G l i r.values

-- whatever reason the call gives is true
abbrev pub Laws : (S B C : List ℕ) → (day : ℕ) → (code G : List ℕ) → Type 0
Laws S B C day code G = (r : Reason) → reason_answer S B C day code G ≡ good r → IsTrue S B C day code G r
