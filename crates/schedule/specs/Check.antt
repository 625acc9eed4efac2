-- The check of a whole schedule, record by record (document 01, "Records" and "Numbers of refusal", and document 02, 2.9). S is the schedule, p the place of a
-- record: `Cursor` is the struct of src/scan.rt, the record's offset and what the records before it hold. B is the record's body.
-- Assumes nothing.
use Rattle.std.specs.Prelude.{ℕ, zero, suc, ◌+◌, ◌-◌, ◌*◌, ◌%◌, ◌≤◌, Bool, true, false, cond, not, ◌&&◌, List, [], ◌∷◌, ◌++◌, eqb, leb, ltb, length}
use Rattle.wire.specs.Choose.{choose, within}
use Rattle.rules.specs.Marks.{most_groups}
use Rattle.records.specs.Bodies.{length_at, kind_at, body_at, head_kind, constants_kind, group_kind, firm_kind, head_size, constants_size, least_group, largest_group, firm_size}
use Rattle.records.specs.Fields.{head_fields, head_ok, constants_fields, group_fields, firm_fields, firm_ok}
use Rattle.rules.specs.Constants.{in_range, in_order}
use Rattle.contracts.specs.Listing.{group_ok}
use Rattle.refusals.specs.Outcome.{Outcome, refused, good}
use Rattle.lookup.specs.Lookup.{group_listed, firm_listed}
use Rattle.lookup.specs.declared.Layout.{Layout}
use Rattle.schedule.specs.declared.scan.Kind.{Kind}
use Rattle.schedule.specs.declared.scan.Kind.TheVariants as kind
use Rattle.schedule.specs.declared.scan.Cursor.{Cursor}

-- Records: kind 1, head; kind 2, group; kind 3, firm; 2.9: kind 6, constants
unfoldable pub kind_of : (number : ℕ) → Kind
kind_of number =
    choose
    ((eqb number head_kind, kind.Head)
    ∷ (eqb number constants_kind, kind.Constants)
    ∷ (eqb number group_kind, kind.Group)
    ∷ (eqb number firm_kind, kind.Firm)
    ∷ [])
    kind.Other

-- Records: one head, 1 to 32 groups, 1 to 200 firms, in that order; Numbers of refusal, 2: a firm is due only after a group; 2.9: kind 6 directly after
-- the head, so a second one is not due
unfoldable pub is_due : Kind → Cursor → Bool
is_due kind.Head p = eqb p.at 0
is_due kind.Constants p = eqb p.at head_size
is_due kind.Group p = not (eqb p.at 0) && eqb p.held.firms 0
is_due kind.Firm p = not (eqb p.held.groups 0)
is_due kind.Other p = false

-- Records: head 10 bytes; group 16 + 2n, n 1 to 64; firm 7 bytes; 2.9: constants 28 bytes
unfoldable pub length_ok : Kind → (len : ℕ) → Bool
length_ok kind.Head len = eqb len head_size
length_ok kind.Constants len = eqb len constants_size
length_ok kind.Group len = within least_group largest_group len && eqb (len % 2) 0
length_ok kind.Firm len = eqb len firm_size
length_ok kind.Other len = false

-- Records: 1 to 200 firms
abbrev pub most_firms : ℕ
most_firms = 200

-- Numbers of refusal, 7: too many, as 32 groups or 200 firms stand before it
unfoldable pub is_full : Kind → Layout → Bool
is_full kind.Head l = false
is_full kind.Constants l = false
is_full kind.Group l = eqb l.groups most_groups
is_full kind.Firm l = eqb l.firms most_firms
is_full kind.Other l = false

-- 2.9, 37: of constants, each is in its range
unfoldable pub constants_in_range : Kind → (B : List ℕ) → Bool
constants_in_range kind.Head B = true
constants_in_range kind.Constants B = in_range (constants_fields B)
constants_in_range kind.Group B = true
constants_in_range kind.Firm B = true
constants_in_range kind.Other B = true

-- 2.9, 38: and the edges are strictly rising, and no factor is above the one before it
unfoldable pub constants_in_order : Kind → (B : List ℕ) → Bool
constants_in_order kind.Head B = true
constants_in_order kind.Constants B = in_order (constants_fields B)
constants_in_order kind.Group B = true
constants_in_order kind.Firm B = true
constants_in_order kind.Other B = true

-- Numbers of refusal, 5: every field is in order; 2.9: those of constants are 37's and 38's
unfoldable pub fields_ok : Kind → (B : List ℕ) → Bool
fields_ok kind.Head B = head_ok (head_fields B)
fields_ok kind.Constants B = true
fields_ok kind.Group B = group_ok B
fields_ok kind.Firm B = firm_ok (firm_fields B)
fields_ok kind.Other B = true

-- Numbers of refusal, 6: a record of its kind before it has its code
unfoldable pub is_repeated : Kind → (S : List ℕ) → Layout → (B : List ℕ) → Bool
is_repeated kind.Head S l B = false
is_repeated kind.Constants S l B = false
is_repeated kind.Group S l B = group_listed S l (group_fields B).code
is_repeated kind.Firm S l B = firm_listed S l B
is_repeated kind.Other S l B = false

module _ (S : List ℕ) (p : Cursor) where
  -- the kind of the record at p
  abbrev pub kind_here : Kind
  kind_here = kind_of (kind_at S p.at)

  -- Numbers of refusal, record by record: four bytes present (1), 2, 3, length inside the schedule (1)
  abbrev pub header_causes : List (Bool × ℕ)
  header_causes =
      (ltb (length S - p.at) 4, 1)
      ∷ (not (is_due kind_here p), 2)
      ∷ (not (length_ok kind_here (length_at S p.at)), 3)
      ∷ (ltb (length S - p.at) (length_at S p.at), 1)
      ∷ []

  -- then 7, 5, 6; 2.9: 37 and 38, both before 5
  abbrev pub body_causes : List (Bool × ℕ)
  body_causes =
      (is_full kind_here p.held, 7)
      ∷ (not (constants_in_range kind_here (body_at S p.at)), 37)
      ∷ (not (constants_in_order kind_here (body_at S p.at)), 38)
      ∷ (not (fields_ok kind_here (body_at S p.at)), 5)
      ∷ (is_repeated kind_here S p.held (body_at S p.at), 6)
      ∷ []

  -- the first of them that refuses the record at p, 0 where none does
  unfoldable pub cause : ℕ
  cause = choose (header_causes ++ body_causes) 0

-- what a schedule holds with one record more, which ends at `next`: the month and the closed days are the head's; the first group stands after the
-- head, 2.9: or after the constants, and the first firm after the last group
unfoldable pub with_record : Kind → (B : List ℕ) → (next : ℕ) → Layout → Layout
with_record kind.Head B next l =
    record { month = (head_fields B).month; closed = (head_fields B).closed; first = next; groups = l.groups; start = next; firms = l.firms }
with_record kind.Constants B next l =
    record { month = l.month; closed = l.closed; first = next; groups = l.groups; start = next; firms = l.firms }
with_record kind.Group B next l =
    record { month = l.month; closed = l.closed; first = l.first; groups = l.groups + 1; start = next; firms = l.firms }
with_record kind.Firm B next l =
    record { month = l.month; closed = l.closed; first = l.first; groups = l.groups; start = l.start; firms = l.firms + 1 }
with_record kind.Other B next l = l

-- the place after the record at p
abbrev pub after : (S : List ℕ) → Cursor → Cursor
after S p =
    let next = p.at + length_at S p.at in
    record { at = next; held = with_record (kind_here S p) (body_at S p.at) next p.held }

-- a place within the schedule, with no more records before it than a schedule has
pub record Fine (S : List ℕ) (p : Cursor) : Type 0 where
  pub inside : p.at ≤ length S
  pub groups : p.held.groups ≤ 32
  pub firms : p.held.firms ≤ 200
  pub near : p.at ≤ head_size + constants_size + largest_group * p.held.groups + firm_size * p.held.firms

-- Numbers of refusal, at the end 4, with the schedule's length: a firm comes after a group and a head, so it is missing where one of the three is
unfoldable pub ending : (S : List ℕ) → Layout → Outcome Layout
ending S l = cond (eqb l.firms 0) (refused 4 (length S)) (good l)

-- Numbers of refusal: the records from p on, at most `fuel` of them; the answer is the number and the record's offset
unfoldable pub scan : (S : List ℕ) → (fuel : ℕ) → Cursor → Outcome Layout
scan S zero p = refused 0 0
scan S (suc fuel) p =
    choose
    ((leb (length S) p.at, ending S p.held) ∷ (eqb (cause S p) 0, scan S fuel (after S p)) ∷ [])
    (refused (cause S p) p.at)

-- nothing was read yet
abbrev pub nothing : Layout
nothing = record { month = 0; closed = 0; first = 0; groups = 0; start = 0; firms = 0 }

-- where the check starts
abbrev pub begin : Cursor
begin = record { at = 0; held = nothing }

-- the check of a schedule; each accepted record has a byte, so its length is fuel enough
unfoldable pub check_of : (S : List ℕ) → Outcome Layout
check_of S = scan S (length S + 1) begin
