-- Which of a group's listed contracts are counted (document 01, "Records"; the Program, section 2). B is the group's body.
-- Assumes nothing.
use Rattle.std.specs.Prelude.{ℕ, ◌%◌, Bool, cond, not, ◌&&◌, ◌||◌, List, [], ◌∷◌, ◌≡◌, Option, Some, None, leb, eqb}
use Rattle.wire.specs.Choose.{choose, seek, some}
use Rattle.wire.specs.Sums.{count}
use Rattle.calendar.specs.Calendar.{bit_at}
use Rattle.records.specs.Fields.{group_fields}
use Rattle.contracts.specs.Listing.{contract, listed}
use Rattle.contracts.specs.declared.counted.Status.{Status}
use Rattle.contracts.specs.declared.counted.Status.TheVariants as status
use Rattle.contracts.specs.declared.counted.Passed.{Passed}

-- Records: a contract's month is in a mask, of which bit 0 is January
abbrev pub in_mask : (mask m : ℕ) → Bool
in_mask mask m = eqb (bit_at mask (m % 12)) 1

module _ (B : List ℕ) where
  -- contract i is in the front mask
  unfoldable pub in_front : (i : ℕ) → Bool
  in_front i = in_mask (group_fields B).front (contract B i)

  -- it is listed after the first k of those: k of them, or more, stand before it
  unfoldable pub is_after : (i : ℕ) → Bool
  is_after i = leb (group_fields B).k (count i in_front)

  -- it is after them and in the extra mask: so not where fewer than k were found, nor where the extra mask is 0
  unfoldable pub is_late : (i : ℕ) → Bool
  is_late i = is_after i && in_mask (group_fields B).extra (contract B i)

  -- Records: the first k listed whose month is in the front mask; when k were found and the extra mask isn't 0, also the first listed after
  -- them whose month is in the extra mask
  unfoldable pub is_counted : (i : ℕ) → Bool
  is_counted i = (not (is_after i) && in_front i) || (is_late i && eqb (count i is_late) 0)

  -- what the walk over a listing has passed before place n
  pub record PassedIs (n : ℕ) (p : Passed) : Type 0 where
    pub front : p.front ≡ count n in_front
    pub extra : p.extra ≡ count n is_late

-- listed contract i is the contract m
unfoldable pub contract_is : List ℕ → (m i : ℕ) → Bool
contract_is B m i = eqb (contract B i) m

-- the group lists the contract m
unfoldable pub contract_listed : List ℕ → (m : ℕ) → Bool
contract_listed B m = some (listed B) (contract_is B m)

-- the place of the first that is, from 0; the number of contracts, where it is unlisted
abbrev pub contract_place : List ℕ → (m : ℕ) → ℕ
contract_place B m = seek 0 (listed B) (contract_is B m)

-- what a search for a contract finds
unfoldable pub contract_found : List ℕ → (m : ℕ) → Option ℕ
contract_found B m = cond (contract_listed B m) (Some (contract_place B m)) None

-- the group counts it
unfoldable pub contract_counted : List ℕ → (m : ℕ) → Bool
contract_counted B m = is_counted B (contract_place B m)

-- what a contract comes to: the number of a refusal, outside or counted
pub data Taken : Type 0 where
  refusal : ℕ → Taken
  outside counted : Taken

-- Numbers of refusal, 17: a contract unlisted for the group; a listed one that isn't counted is outside
abbrev pub status_meaning : Status → Taken
status_meaning status.Unlisted = refusal 17
status_meaning status.Listed = outside
status_meaning status.Counted = counted

-- how a group takes the contract m
unfoldable pub status_of : List ℕ → (m : ℕ) → Taken
status_of B m = choose ((not (contract_listed B m), refusal 17) ∷ (contract_counted B m, counted) ∷ []) outside
