-- The causes that refuse a posted record, activity or a correction, but for its cell's, and which records are counted (document 01, "Numbers of
-- refusal" and "The book and its calls", and document 02, 2.3 and 2.5). S is the schedule, l what it holds, R the record.
-- Assumes nothing.
use Rattle.std.specs.Prelude.{ℕ, Bool, true, cond, not, ◌&&◌, ◌||◌, List, [], ◌∷◌, ◌++◌, ltb, eqb, length}
use Rattle.calendar.specs.Calendar.{has_day, in_effect}
use Rattle.records.specs.Bodies.{length_at, body_at}
use Rattle.contracts.specs.Counted.{contract_listed, contract_counted}
use Rattle.lookup.specs.Lookup.{group_start, group_place, group_listed, firm_place, firm_listed}
use Rattle.lookup.specs.declared.Layout.{Layout}
use Rattle.activity.specs.Activity.{activity_length, is_activity, firm_code, day, group_code, contract_of, minimum_quantity_impossible}
use Rattle.activity.specs.Correction.{correction_length, is_correction, correction_fields, is_sound}

-- Records and 2.3: the length of the record's kind, 44 or 32; no other kind is asked for its length, as 12 refuses it
abbrev pub due_length : (R : List ℕ) → ℕ
due_length R = cond (is_activity R) activity_length correction_length

-- Numbers of refusal and 2.3, 11 to 13, of the record alone: under four bytes; kind neither 4 nor 8; length field or slice not that kind's
abbrev pub form_causes : (R : List ℕ) → List (Bool × ℕ)
form_causes R =
    (ltb (length R) 4, 11)
    ∷ (not (is_activity R || is_correction R), 12)
    ∷ (not (eqb (length_at R 0) (due_length R) && eqb (length R) (due_length R)), 13)
    ∷ []

-- 2.3, 31, after 13: a correction with a nonzero zero field or edition 0
abbrev pub field_causes : (R : List ℕ) → List (Bool × ℕ)
field_causes R = (is_correction R && not (is_sound (correction_fields R)), 31) ∷ []

module _ (S : List ℕ) (l : Layout) where
  -- the place of the record's firm, from 0; past the last, where it is unlisted
  abbrev pub firm_place_of : (R : List ℕ) → ℕ
  firm_place_of R = firm_place S l (firm_code R)

  -- the place of its group, likewise
  abbrev pub group_place_of : (R : List ℕ) → ℕ
  group_place_of R = group_place S l (group_code R)

  -- its group's body in the schedule
  abbrev pub group_body : (R : List ℕ) → List ℕ
  group_body R = body_at S (group_start S l.first (group_place_of R))

  -- Numbers of refusal, 14 to 17, against the schedule: firm unlisted; group unlisted; day 0 or past the month; activity in a contract unlisted for
  -- the group (2.3: 14 to 16 hold for a correction too). 2.5, 33, of the record alone and asked directly after 17: activity with more
  -- minimum-quantity orders than new orders and FAK/FOK orders together
  abbrev pub list_causes : (R : List ℕ) → List (Bool × ℕ)
  list_causes R =
      (not (firm_listed S l (firm_code R)), 14)
      ∷ (not (group_listed S l (group_code R)), 15)
      ∷ (not (has_day l.month (day R)), 16)
      ∷ (is_activity R && not (contract_listed (group_body R) (contract_of R)), 17)
      ∷ (is_activity R && minimum_quantity_impossible R, 33)
      ∷ []

  -- Numbers of refusal, top to bottom: all that is asked of a record before its cell
  abbrev pub record_causes : (R : List ℕ) → List (Bool × ℕ)
  record_causes R = form_causes R ++ field_causes R ++ list_causes R

  -- Post: a day in effect and, of activity, a counted contract (2.3: a correction has no contract)
  abbrev pub is_counted_record : (R : List ℕ) → Bool
  is_counted_record R = in_effect l.month l.closed (day R) && cond (is_activity R) (contract_counted (group_body R) (contract_of R)) true
