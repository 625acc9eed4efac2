-- The reason beside the line (document 01, "The month", and document 02, 2.7 and 2.9). S is the schedule, l what it holds, B the book, C the firm's code, `code`
-- the group's, G the grants.
-- Assumes nothing.
use Rattle.std.specs.Prelude.{ℕ, ◌+◌, ◌-◌, ◌*◌, Bool, not, List, [], ◌∷◌, Result, Ok, Err, length}
use Rattle.calendar.specs.Calendar.{has_day}
use Rattle.rules.specs.Verdict.{severe_sides}
use Rattle.rules.specs.Marks.{most_groups, day_of, group_of, mark}
use Rattle.rules.specs.declared.Sides.{Sides}
use Rattle.refusals.specs.Outcome.{Outcome, refused, good, follow, asked, number_of}
use Rattle.refusals.specs.declared.Refusal.{Refusal}
use Rattle.lookup.specs.Lookup.{group_at, group_listed, group_place}
use Rattle.lookup.specs.InForce.{rules_of}
use Rattle.lookup.specs.declared.Layout.{Layout}
use Rattle.book.specs.Book.{check_book}
use Rattle.month.specs.Month.{firm_totals, month_sums}
use Rattle.grants.specs.Month.{granted_month, granted_answer}
use Rattle.reason.specs.Beside.{Reason, reason_of, reason_by}
use Rattle.reason.specs.declared.Explanation.{Explanation}

module _ (S B C G : List ℕ) (l : Layout) where
  -- 2.7: both sides of the six-times comparison (2.9: with the severe multiple in force), of the cell of place i
  abbrev pub sides_at : (i : ℕ) → Sides
  sides_at i = severe_sides (rules_of S) (group_at S l (group_of i)).benchmark 1 (firm_totals S B C l (group_of i) (day_of i))

  -- 2.7: the reason for place i: the statement's own mark, and what goes with it
  abbrev pub reason_at : (i : ℕ) → Reason
  reason_at =
      let j = granted_month S B C G l in
      reason_by (group_at S l) (month_sums S l (firm_totals S B C l)) sides_at j.grouping (mark (rules_of S) j)

module _ (S : List ℕ) (day : ℕ) (code : List ℕ) (l : Layout) where
  -- the place of a day and of the group with the code
  abbrev pub place_of : ℕ
  place_of = (day - 1) * most_groups + group_place S l code

  -- Numbers of refusal and 2.7: 15, group unlisted; 16, day 0 or past the month
  abbrev pub unknown_causes : List (Bool × ℕ)
  unknown_causes = (not (group_listed S l code), 15) ∷ (not (has_day l.month day), 16) ∷ []

-- 2.7: refusals are those of the statement without 23, with 15 and 16 directly before 21, so after 1 to 8, 37 and 38 (`granted_answer` asks these again, where
-- none refuses); else the reason for the day and group
unfoldable pub reason_answer : (S B C : List ℕ) → (day : ℕ) → (code G : List ℕ) → Outcome Reason
reason_answer S B C day code G =
    follow (check_book S (length B)) (λ l. asked (unknown_causes S day code l)
    (follow (granted_answer S B C G) (λ k. good (reason_at S B C G k (place_of S day code k)))))

-- what the call's answer means: a refusal, or a mark with its values
abbrev pub reason_meaning : Result Explanation Refusal → Outcome Reason
reason_meaning (Ok r) = good (reason_of r)
reason_meaning (Err r) = refused (number_of r.cause) r.offset
