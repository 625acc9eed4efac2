-- What the check's answer tells (document 01, "Records", and document 02, 2.9): what a good schedule holds, and that a refusal has a number.
-- Proved in proofs/Good.antt and Found.antt.
-- Assumes nothing.
use Rattle.std.specs.Prelude.{ℕ, ◌+◌, ◌*◌, ◌≤◌, ◌<◌, Bool, true, false, ◌||◌, List, Some, None, ◌≡◌, length}
use Rattle.wire.specs.Choose.{within}
use Rattle.rules.specs.Constants.{is_lawful}
use Rattle.rules.specs.Marks.{most_groups}
use Rattle.records.specs.Bodies.{length_at, kind_at, body_at, head_kind, group_kind, firm_kind, head_size, constants_size, firm_size}
use Rattle.records.specs.Fields.{head_fields, head_ok, group_in_range, firm_fields, firm_ok}
use Rattle.contracts.specs.Listing.{contracts_ok, listed}
use Rattle.refusals.specs.Outcome.{refused}
use Rattle.lookup.specs.Lookup.{group_start, firm_start, group_at, group_is, firm_is, group_found_at, group_found, firm_found}
use Rattle.lookup.specs.InForce.{has_constants, rules_of, groups_from}
use Rattle.schedule.specs.Check.{most_firms, check_of}
use Rattle.lookup.specs.declared.GroupPlace.{GroupPlace}
use Rattle.lookup.specs.declared.Layout.{Layout}

-- a test holds at one place below n at the most
abbrev pub Once : (n : ℕ) → (ℕ → Bool) → Type 0
Once n p = (i j : ℕ) → i < n → j < n → p i ≡ true → p j ≡ true → i ≡ j

-- the record of a group at a place: kind 2, 16 + 2n bytes with n listed contracts, 1 to 64, which are month numbers and rise
pub record GroupStands (S : List ℕ) (at : ℕ) : Type 0 where
  pub kind : kind_at S at ≡ group_kind
  pub size : length_at S at ≡ 16 + 2 * listed (body_at S at)
  pub contracts : within 1 64 (listed (body_at S at)) ≡ true
  pub rising : contracts_ok (body_at S at) ≡ true

-- the record of a firm at a place: kind 3, seven bytes, and a code of letters
pub record FirmStands (S : List ℕ) (at : ℕ) : Type 0 where
  pub kind : kind_at S at ≡ firm_kind
  pub size : length_at S at ≡ firm_size
  pub letters : firm_ok (firm_fields (body_at S at)) ≡ true

pub record GoodSchedule (S : List ℕ) (l : Layout) : Type 0 where
  -- 1 to 32 groups, 1 to 200 firms
  pub some_group : 1 ≤ l.groups
  pub few_groups : l.groups ≤ most_groups
  pub some_firm : 1 ≤ l.firms
  pub few_firms : l.firms ≤ most_firms
  -- the head stands first, then the constants where there are any (2.9), then the groups, then the firms, and nothing after them
  pub head_first : kind_at S 0 ≡ head_kind
  pub head_length : length_at S 0 ≡ head_size
  pub first : l.first ≡ groups_from S
  pub starts : l.start ≡ group_start S l.first l.groups
  pub ends : length S ≡ firm_start l.start l.firms
  -- so it has at most 10 + 28 + 144 × 32 + 7 × 200 bytes
  pub short : length S ≤ 6046
  -- 2.9: constants have 28 bytes, and those in force are a lawful set, whether the schedule gives them or not
  pub constants : has_constants S ≡ true → length_at S head_size ≡ constants_size
  pub lawful : is_lawful (rules_of S) ≡ true
  -- the head's fields, in range: a month number, and no bit past the month's end
  pub month : l.month ≡ (head_fields (body_at S 0)).month
  pub closed : l.closed ≡ (head_fields (body_at S 0)).closed
  pub head : head_ok (head_fields (body_at S 0)) ≡ true
  -- every group's and firm's record and fields
  pub groups : (i : ℕ) → i < l.groups → GroupStands S (group_start S l.first i)
  pub ranges : (i : ℕ) → i < l.groups → group_in_range (group_at S l i) ≡ true
  pub firms : (i : ℕ) → i < l.firms → FirmStands S (firm_start l.start i)
  -- no code is repeated in its kind
  pub group_once : (C : List ℕ) → Once l.groups (group_is S l.first C)
  pub firm_once : (C : List ℕ) → Once l.firms (firm_is S l.start C)

-- of n records, i is the only one of which the test holds
pub record Only (n : ℕ) (p : ℕ → Bool) (i : ℕ) : Type 0 where
  pub inside : i < n
  pub holds : p i ≡ true
  pub only : (j : ℕ) → j < n → p j ≡ true → j ≡ i

-- what a search by code in a good schedule tells: a code that is found has one place, and one that is unlisted has none
pub record Searched (S : List ℕ) (l : Layout) : Type 0 where
  pub group : (C : List ℕ) {g : GroupPlace} → group_found S l C ≡ Some g → Only l.groups (group_is S l.first C) g.index
  pub group_stands : (C : List ℕ) {g : GroupPlace} → group_found S l C ≡ Some g → g ≡ group_found_at S l g.index
  pub no_group : (C : List ℕ) → group_found S l C ≡ None → (i : ℕ) → i < l.groups → group_is S l.first C i ≡ false
  pub firm : (C : List ℕ) {i : ℕ} → firm_found S l C ≡ Some i → Only l.firms (firm_is S l.start C) i
  pub no_firm : (C : List ℕ) → firm_found S l C ≡ None → (i : ℕ) → i < l.firms → firm_is S l.start C i ≡ false

-- Numbers of refusal: those of a schedule's records are 1 to 7; 2.9: and 37 and 38
abbrev pub is_cause : (number : ℕ) → Bool
is_cause n = within 1 7 n || within 37 38 n

-- a refusal of the check always has one of these numbers
abbrev pub Numbered : (S : List ℕ) → Type 0
Numbered S = (n o : ℕ) → check_of S ≡ refused n o → is_cause n ≡ true
