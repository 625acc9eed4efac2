-- A group's listed contracts (document 01, "Records", kind 2). B is the group's body, which starts after length and kind: offsets in it are
-- document 01's less 4.
-- Assumes nothing.
use Rattle.std.specs.Prelude.{ℕ, zero, suc, ◌+◌, ◌-◌, ◌*◌, ◌/◌, Bool, not, ◌&&◌, ◌||◌, List, leb, length}
use Rattle.wire.specs.Bytes.{u16_at}
use Rattle.wire.specs.Choose.{some}
use Rattle.calendar.specs.Calendar.{is_month}
use Rattle.records.specs.Fields.{group_fields, group_in_range}

-- Records, kind 2: then n listed contracts u16, from 16 on
abbrev pub contracts_at : ℕ
contracts_at = 12

-- n
unfoldable pub listed : (B : List ℕ) → ℕ
listed B = (length B - contracts_at) / 2

-- the month number of listed contract i
unfoldable pub contract : (B : List ℕ) → (i : ℕ) → ℕ
contract B i = u16_at B (contracts_at + 2 * i)

-- that of the contract before it, 0 before the first
unfoldable pub before : (B : List ℕ) → (i : ℕ) → ℕ
before B zero = 0
before B (suc i) = contract B i

-- contract i is no month number, or not above the one before it
unfoldable pub contract_bad : (B : List ℕ) → (i : ℕ) → Bool
contract_bad B i = not (is_month (contract B i)) || leb (contract B i) (before B i)

-- Records, kind 2: the contracts are month numbers, strictly rising
unfoldable pub contracts_ok : (B : List ℕ) → Bool
contracts_ok B = not (some (listed B) (contract_bad B))

-- Records, kind 2: all of a group's fields
abbrev pub group_ok : (B : List ℕ) → Bool
group_ok B = group_in_range (group_fields B) && contracts_ok B
