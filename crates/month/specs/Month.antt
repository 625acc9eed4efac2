-- A firm's month out of the book (document 01, "The month" and "Numbers of refusal", and document 02, 2.1, 2.3, 2.6, 2.7 and 2.9). S is the schedule, l what
-- it holds, B the book, C the firm's code, f its place among the firms.
-- Assumes nothing.
use Rattle.std.specs.Prelude.{ℕ, Bool, not, ◌&&◌, List, [], ◌∷◌, Result, Ok, Err, IfOk, ◌≡◌, leb, length}
use Rattle.wire.specs.Choose.{some}
use Rattle.wire.specs.Lists.{table}
use Rattle.calendar.specs.Calendar.{days_in, in_effect}
use Rattle.rules.specs.Month.{Terms, DailyTotals, days, sums, exempt}
use Rattle.rules.specs.Marks.{most_groups, places, day_of, group_of, Judged, no_grants, judged, mark}
use Rattle.refusals.specs.Outcome.{Outcome, refused, good, follow, asked, number_of}
use Rattle.refusals.specs.declared.Refusal.{Refusal}
use Rattle.lookup.specs.Lookup.{group_start, group_at, firm_listed, firm_place}
use Rattle.lookup.specs.InForce.{rules_of}
use Rattle.lookup.specs.declared.Layout.{Layout}
use Rattle.cell.specs.Cell.{is_within, FirmCells, cell_totals}
use Rattle.book.specs.Book.{cells, totals_in, check_book}
use Rattle.month.specs.declared.days.MonthSums.{MonthSums}
use Rattle.month.specs.declared.GroupMonth.{GroupMonth}
use Rattle.month.specs.declared.Month.{Month}

-- Records: what the schedule says of the month, its days in effect and its groups' benchmarks and exchange groupings
abbrev pub terms : (S : List ℕ) → Layout → Terms
terms S l =
    record {
      groups = l.groups;
      in_effect = in_effect l.month l.closed;
      benchmark = λ g. (group_at S l g).benchmark;
      grouping = λ g. (group_at S l g).grouping;
    }

-- The month: a firm's verdicts, exemptions and groupings, from its totals and by the rules in force; 2.6: and the places that its grants name
abbrev pub month_of : (S : List ℕ) → Layout → DailyTotals → (named : (i : ℕ) → Bool) → Judged
month_of S l c named = judged (rules_of S) (terms S l) c named

-- Numbers of refusal, 22: a number of that firm, days of the month, above 10,000,000,000; here on the day and in the group of place i
abbrev pub is_excess : Layout → FirmCells → (i : ℕ) → Bool
is_excess l c i = leb (day_of i) (days_in l.month) && not (is_within (c (group_of i) (day_of i)))

-- and anywhere
unfoldable pub any_excess : Layout → FirmCells → Bool
any_excess l c = some places (is_excess l c)

module _ (S B C : List ℕ) (l : Layout) where
  -- the firm's cells in the book
  abbrev pub firm_cells : FirmCells
  firm_cells = cells l.groups B (firm_place S l C)

  -- their totals: what judges a day sees these alone
  abbrev pub firm_totals : DailyTotals
  firm_totals = cell_totals firm_cells

  -- Numbers of refusal, 21 and 22, top to bottom: firm code unlisted; a number above the limit
  abbrev pub month_causes : List (Bool × ℕ)
  month_causes = (not (firm_listed S l C), 21) ∷ (any_excess l firm_cells, 22) ∷ []

-- Numbers of refusal: those of schedule and book (1 to 8, 37, 38), then 21 and 22; else what the schedule holds
unfoldable pub month_answer : (S B C : List ℕ) → Outcome Layout
month_answer S B C = follow (check_book S (length B)) (λ l. asked (month_causes S B C l) (good l))

-- where the first 32 groups stand; past the last group the places mean nothing
abbrev pub starts_of : (S : List ℕ) → Layout → List ℕ
starts_of S l = table most_groups (group_start S l.first)

-- The month: R, S, V and d of a group, for the totals c
abbrev pub month_sums : (S : List ℕ) → Layout → DailyTotals → (g : ℕ) → MonthSums
month_sums S l c g =
    let t = sums (terms S l) c g in
    record { raw = t.raw; score = t.score; lots = t.lots; days = days (terms S l) c g }

-- a group in a month: where it stands, its exchange grouping, its sums (2.7 shows them), and whether it is exempt, for the totals c
abbrev pub group_month : (S : List ℕ) → Layout → DailyTotals → (g : ℕ) → GroupMonth
group_month S l c g =
    record {
      start = group_start S l.first g;
      grouping = (group_at S l g).grouping;
      sums = month_sums S l c g;
      exempt = exempt (rules_of S) (terms S l) c g;
    }

-- the groups by their places
abbrev pub groups_of : (S : List ℕ) → Layout → DailyTotals → List GroupMonth
groups_of S l c = table most_groups (group_month S l c)

module _ (S : List ℕ) (l : Layout) (B : List ℕ) (f : ℕ) (named : (i : ℕ) → Bool) where
  -- the month of firm f, whose grants name these places
  abbrev pub month_of_firm : Judged
  month_of_firm = month_of S l (totals_in l.groups B f) named

  -- as it is held: place by place and group by group
  pub record HeldMonth (m : Month) : Type 0 where
    pub layout : m.layout ≡ l
    pub firm : m.firm ≡ f
    pub groups : m.groups ≡ groups_of S l (totals_in l.groups B f)
    -- 2.1: what uses a verdict passes the factor on
    pub verdicts : m.verdicts ≡ table places month_of_firm.verdict
    pub marks : m.marks ≡ table places (mark (rules_of S) month_of_firm)

-- what the call's answer means: a refusal, or what the schedule holds
abbrev pub month_meaning : Result Month Refusal → Outcome Layout
month_meaning (Ok m) = good m.layout
month_meaning (Err r) = refused (number_of r.cause) r.offset

-- what the call promises: a refusal, or the firm's month without grants
pub record MonthIs (S B C : List ℕ) (r : Result Month Refusal) : Type 0 where
  pub answer : month_meaning r ≡ month_answer S B C
  pub held : IfOk r (λ m. HeldMonth S m.layout B (firm_place S m.layout C) no_grants m)
