-- Where the groups and firms of a schedule stand, and which of them has a code (document 01, "Records"). S is the schedule, l what it holds.
-- `Layout` is the struct of src/lib.rt: month, days not in effect, how many groups and firms, and where the first of each stands.
-- Assumes nothing.
use Rattle.std.specs.Prelude.{ℕ, zero, suc, ◌+◌, ◌*◌, Bool, cond, List, Option, Some, None}
use Rattle.std.specs.Str.{bytes_eq}
use Rattle.wire.specs.Choose.{seek, some}
use Rattle.records.specs.Bodies.{length_at, rest_at, body_at, firm_size}
use Rattle.records.specs.Fields.{group_fields, firm_fields, has_code}
use Rattle.records.specs.declared.fields.Group.{Group}
use Rattle.lookup.specs.declared.Layout.{Layout}
use Rattle.lookup.specs.declared.GroupPlace.{GroupPlace}

-- where group i stands, the first at `first`: each other after the one before
unfoldable pub group_start : (S : List ℕ) → (first i : ℕ) → ℕ
group_start S first zero = first
group_start S first (suc i) = group_start S first i + length_at S (group_start S first i)

-- where firm i stands, the first at `start`
abbrev pub firm_start : (start i : ℕ) → ℕ
firm_start start i = start + firm_size * i

-- the record at `at` has the group code C, whatever its length says
abbrev pub group_has : (S : List ℕ) → (at : ℕ) → (C : List ℕ) → Bool
group_has S at C = bytes_eq (group_fields (rest_at S at)).code C

-- group i has that code
unfoldable pub group_is : (S : List ℕ) → (first : ℕ) → (C : List ℕ) → (i : ℕ) → Bool
group_is S first C i = group_has S (group_start S first i) C

-- firm i has the code C
unfoldable pub firm_is : (S : List ℕ) → (start : ℕ) → (C : List ℕ) → (i : ℕ) → Bool
firm_is S start C i = has_code (firm_fields (rest_at S (firm_start start i))) C

module _ (S : List ℕ) (l : Layout) where
  -- the fields of group g, from 0
  abbrev pub group_at : (g : ℕ) → Group
  group_at g = group_fields (body_at S (group_start S l.first g))

  -- one of the groups has the code C
  unfoldable pub group_listed : (C : List ℕ) → Bool
  group_listed C = some l.groups (group_is S l.first C)

  -- the place of the first that has it, from 0; the number of groups, where it is unlisted
  abbrev pub group_place : (C : List ℕ) → ℕ
  group_place C = seek 0 l.groups (group_is S l.first C)

  -- group g as it is found
  abbrev pub group_found_at : (g : ℕ) → GroupPlace
  group_found_at g = record { index = g; offset = group_start S l.first g }

  -- what a search for a group's code finds; each caller gives "unlisted" its own number: 15 for a record's group and a reason's, 35 for a grant's
  unfoldable pub group_found : (C : List ℕ) → Option GroupPlace
  group_found C = cond (group_listed C) (Some (group_found_at (group_place C))) None

  -- one of the firms has the code C
  unfoldable pub firm_listed : (C : List ℕ) → Bool
  firm_listed C = some l.firms (firm_is S l.start C)

  -- the place of the first that has it, from 0; the number of firms, where it is unlisted
  abbrev pub firm_place : (C : List ℕ) → ℕ
  firm_place C = seek 0 l.firms (firm_is S l.start C)

  -- what a search for a firm's code finds; "unlisted" is 14 for a record's firm, 21 for a statement's and a reason's, 35 for a grant's
  unfoldable pub firm_found : (C : List ℕ) → Option ℕ
  firm_found C = cond (firm_listed C) (Some (firm_place C)) None
