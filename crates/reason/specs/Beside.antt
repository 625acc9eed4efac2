-- The reasons of document 02, 2.7 and 2.9, worked out from a month's marks and exchange groupings, the groups' codes and sums, and the sides of severe days.
-- `Explanation`, `Waiver` and `LastTwo` are types of src/.
-- Assumes nothing.
use Rattle.std.specs.Prelude.{ℕ, ◌+◌, Bool, ◌&&◌, List, [], ◌∷◌, ◌++◌, Option, Some, None, eqb}
use Rattle.wire.specs.Choose.{choose, last_below}
use Rattle.wire.specs.Sums.{count}
use Rattle.rules.specs.Marks.{places, day_of, group_of}
use Rattle.rules.specs.declared.Sides.{Sides}
use Rattle.records.specs.declared.fields.Group.{Group}
use Rattle.month.specs.declared.days.MonthSums.{MonthSums}
use Rattle.reason.specs.declared.Explanation.{Explanation}
use Rattle.reason.specs.declared.Explanation.TheVariants as explained
use Rattle.reason.specs.declared.Waiver.{Waiver}
use Rattle.reason.specs.declared.waivers.LastTwo.{LastTwo}

-- 2.7: a reason: the mark of the line (0: not a violation), and the values that go with it, in the request's order
pub record Reason : Type 0 where
  pub mark : ℕ
  pub values : List ℕ

-- 2.7: both sides of the six-times comparison; 2.9: with the severe multiple in force
abbrev pub sides_shown : Sides → List ℕ
sides_shown s = s.scored ∷ s.allowed ∷ []

-- 2.7: R, S, V and d
abbrev pub sums_shown : MonthSums → List ℕ
sums_shown s = s.raw ∷ s.score ∷ s.lots ∷ s.days ∷ []

-- 2.7: the day and group code of a waiver
abbrev pub waiver_shown : Waiver → List ℕ
waiver_shown w = w.day ∷ w.code

-- 2.7: each answer's mark and values, by its cases
abbrev pub reason_of : Explanation → Reason
reason_of explained.NotAViolation = record { mark = 0; values = [] }
reason_of (explained.Severe s) = record { mark = 1; values = sides_shown s }
reason_of (explained.Monthly s) = record { mark = 3; values = sums_shown s }
reason_of (explained.Automatic n) = record { mark = 4; values = n ∷ [] }
reason_of explained.Granted = record { mark = 5; values = [] }
reason_of (explained.Billed s w v) = record { mark = 2; values = sums_shown s ++ waiver_shown w ++ waiver_shown v }

-- place k, and the one before it, where there is one
abbrev pub with_before : (k : ℕ) → Option ℕ → LastTwo
with_before k None = record { first = Some k; second = None }
with_before k (Some i) = record { first = Some i; second = Some k }

-- the last two places, the later being given: none where it is none
abbrev pub two_up_to : (p : ℕ → Bool) → Option ℕ → LastTwo
two_up_to p None = record { first = None; second = None }
two_up_to p (Some k) = with_before k (last_below k p)

-- the last two places below n at which p holds, the earlier first; 2.9: a missing one comes after the one there is
abbrev pub last_two : (n : ℕ) → (p : ℕ → Bool) → LastTwo
last_two n p = two_up_to p (last_below n p)

module _ (grouping marks : (i : ℕ) → ℕ) where
  -- The month: an automatic line of the exchange grouping e
  abbrev pub is_automatic : (e i : ℕ) → Bool
  is_automatic e i = eqb (grouping i) e && eqb (marks i) 4

  -- 2.7: an automatic line's number in its grouping, from 1
  abbrev pub number_at : (i : ℕ) → ℕ
  number_at i = count i (is_automatic (grouping i)) + 1

  -- 2.7: the last two automatic waivers in a grouping, the earlier first
  abbrev pub waivers_in : (e : ℕ) → LastTwo
  waivers_in e = last_two places (is_automatic e)

-- the day and group code of the waiver at a place; 2.9: zeros for a missing one
abbrev pub waiver_at : (groups : (g : ℕ) → Group) → Option ℕ → Waiver
waiver_at groups None = record { day = 0; code = 0 ∷ 0 ∷ [] }
waiver_at groups (Some i) = record { day = day_of i; code = (groups (group_of i)).code }

module _ (groups : (g : ℕ) → Group) (sums : (g : ℕ) → MonthSums) (sides : (i : ℕ) → Sides) (grouping marks : (i : ℕ) → ℕ) where
  -- 2.7: by the mark: not a violation; severe, with both sides of the six-times comparison; monthly exempt, with R, S, V and d; automatic, its number; granted;
  -- billed, with R, S, V and d and the day and group code of the last two automatic waivers in its grouping, the earlier first; 2.9: zeros
  -- for each missing one
  unfoldable pub values_at : (i : ℕ) → List ℕ
  values_at i =
      let w = waivers_in grouping marks (grouping i) in
      choose
      ((eqb (marks i) 0, [])
      ∷ (eqb (marks i) 1, sides_shown (sides i))
      ∷ (eqb (marks i) 3, sums_shown (sums (group_of i)))
      ∷ (eqb (marks i) 4, number_at grouping marks i ∷ [])
      ∷ (eqb (marks i) 5, [])
      ∷ [])
      (sums_shown (sums (group_of i)) ++ waiver_shown (waiver_at groups w.first) ++ waiver_shown (waiver_at groups w.second))

  -- the reason for place i
  abbrev pub reason_by : (i : ℕ) → Reason
  reason_by i = record { mark = marks i; values = values_at i }
