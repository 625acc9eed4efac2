-- The grants of a statement: how a schedule takes them, and the places that they name (document 02, 2.6). S is the schedule, l what it holds, G the lent
-- list, R one grant, C a firm's code. A grant's firm, day and group stand where an activity record has them (activity/specs/Activity.antt).
-- Assumes nothing.
use Rattle.std.specs.Prelude.{ℕ, ◌+◌, ◌-◌, ◌*◌, ◌/◌, Bool, not, ◌&&◌, List, [], ◌∷◌, eqb, length, take, drop}
use Rattle.std.specs.Str.{bytes_eq}
use Rattle.wire.specs.Choose.{all, some}
use Rattle.wire.specs.Lists.{joined}
use Rattle.calendar.specs.Calendar.{has_day}
use Rattle.rules.specs.Marks.{day_of, group_of}
use Rattle.activity.specs.Activity.{firm_code, day, group_code}
use Rattle.records.specs.Bodies.{length_at, kind_at}
use Rattle.lookup.specs.Lookup.{firm_listed, group_listed, group_place}
use Rattle.lookup.specs.declared.Layout.{Layout}

-- 2.6: kind 9, 10 bytes
abbrev pub grant_kind : ℕ
grant_kind = 9

abbrev pub grant_size : ℕ
grant_size = 10

-- how many grants a list has, one after the other; bytes that are left count as one more, which is cut
abbrev pub grants_in : (G : List ℕ) → ℕ
grants_in G = (length G + (grant_size - 1)) / grant_size

-- grant k, from 0; of a cut one what is there
abbrev pub grant_at : (G : List ℕ) → (k : ℕ) → List ℕ
grant_at G k = take grant_size (drop (grant_size * k) G)

-- 2.6: a grant that is not cut, and has the right length and kind
abbrev pub is_whole : (R : List ℕ) → Bool
is_whole R = all (eqb (length R) grant_size ∷ eqb (length_at R 0) grant_size ∷ eqb (kind_at R 0) grant_kind ∷ [])

module _ (S : List ℕ) (l : Layout) where
  -- 2.6: a grant with a listed firm and group, and a day in the month
  abbrev pub has_cell : (R : List ℕ) → Bool
  has_cell R = all (firm_listed S l (firm_code R) ∷ group_listed S l (group_code R) ∷ has_day l.month (day R) ∷ [])

  -- Numbers of refusal, 2.6: 34, a grant that is cut or has wrong kind or length; 35, a grant with an unlisted firm or group, or a day not in the month
  abbrev pub grant_causes : (R : List ℕ) → List (Bool × ℕ)
  grant_causes R = (not (is_whole R), 34) ∷ (not (has_cell R), 35) ∷ []

  -- 2.6: grant by grant
  abbrev pub grants_causes : (G : List ℕ) → List (Bool × ℕ)
  grants_causes G = joined (grants_in G) (λ k. grant_causes (grant_at G k))

  -- the group with a code is listed, and stands at place g among the groups
  abbrev pub stands_at : (code : List ℕ) → (g : ℕ) → Bool
  stands_at code g = group_listed S l code && eqb (group_place S l code) g

  -- 2.6: a grant names place i of the firm with the code C: it has that code, the day of the place, and the group that stands there
  abbrev pub names : (C : List ℕ) → (i : ℕ) → (R : List ℕ) → Bool
  names C i R = all (bytes_eq (firm_code R) C ∷ eqb (day R) (day_of i) ∷ stands_at (group_code R) (group_of i) ∷ [])

  -- 2.6: a grant of the list names place i; a grant named twice works once
  abbrev pub named : (C G : List ℕ) → (i : ℕ) → Bool
  named C G i = some (grants_in G) (λ k. names C i (grant_at G k))
