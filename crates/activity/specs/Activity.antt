-- An activity record's fields, whether its minimum quantities are possible, and what it adds to its cell (document 01, "Records", kind 4, and "The
-- day's verdict"; document 02, 2.2 and 2.5; the Program, section 2). R is the whole record. Where corrections (document
-- 02, 2.3) and grants (2.6) have their firm, day and group is said here too.
-- Assumes nothing.
use Rattle.std.specs.Prelude.{ℕ, ◌+◌, ◌*◌, Bool, List, [], ◌∷◌, eqb, ltb, get_or, take, drop}
use Rattle.wire.specs.Bytes.{u16_at, u32_at}
use Rattle.records.specs.Bodies.{kind_at}
use Rattle.rules.specs.declared.Totals.{Totals}

-- Records: kind 4, activity, 44 bytes
abbrev pub activity_kind : ℕ
activity_kind = 4

abbrev pub activity_length : ℕ
activity_length = 44

-- Records: a record whose kind is 4
abbrev pub is_activity : (R : List ℕ) → Bool
is_activity R = eqb (kind_at R 0) activity_kind

-- Records, kind 4, and 2.3, kind 8, and 2.6, kind 9: firm at 4
abbrev pub firm_code : (R : List ℕ) → List ℕ
firm_code R = take 3 (drop 4 R)

-- Records, kind 4, and 2.3, kind 8, and 2.6, kind 9: day u8 at 7
abbrev pub day : (R : List ℕ) → ℕ
day R = get_or R 7 0

-- Records, kind 4, and 2.3, kind 8, and 2.6, kind 9: group at 8, two letters
abbrev pub group_code : (R : List ℕ) → List ℕ
group_code R = get_or R 8 0 ∷ get_or R 9 0 ∷ []

-- Records, kind 4: contract u16 at 10
abbrev pub contract_of : (R : List ℕ) → ℕ
contract_of R = u16_at R 10

-- Records, kind 4: u32 each from 12, first new orders
abbrev pub new_orders : (R : List ℕ) → ℕ
new_orders R = u32_at R 12

-- Records, kind 4: modifications, at 16
abbrev pub modifications : (R : List ℕ) → ℕ
modifications R = u32_at R 16

-- Records, kind 4: cancellations, at 20
abbrev pub cancellations : (R : List ℕ) → ℕ
cancellations R = u32_at R 20

-- Records, kind 4: FAK/FOK, at 24
abbrev pub fak_fok : (R : List ℕ) → ℕ
fak_fok R = u32_at R 24

-- Records, kind 4: mass action requests, at 28
abbrev pub mass_requests : (R : List ℕ) → ℕ
mass_requests R = u32_at R 28

-- Records, kind 4: mass action reports, at 32
abbrev pub mass_reports : (R : List ℕ) → ℕ
mass_reports R = u32_at R 32

-- Records, kind 4: minimum-quantity orders, at 36
abbrev pub minimum_quantity : (R : List ℕ) → ℕ
minimum_quantity R = u32_at R 36

-- Records, kind 4: lots, at 40
abbrev pub lots : (R : List ℕ) → ℕ
lots R = u32_at R 40

-- Document 02, 2.5: more minimum-quantity orders than new orders and FAK/FOK orders together
abbrev pub minimum_quantity_impossible : (R : List ℕ) → Bool
minimum_quantity_impossible R = ltb (new_orders R + fak_fok R) (minimum_quantity R)

-- The day's verdict: new orders + modifications + cancellations + FAK/FOK orders; mass actions are not in it. A minimum-quantity order is in it as
-- the new or FAK/FOK order that it is (document 02, 2.2: raw counts stay)
abbrev pub raw_count : (R : List ℕ) → ℕ
raw_count R = new_orders R + modifications R + cancellations R + fak_fok R

-- The Program, section 2, its table of order types and pre-defined factors, row by row: the record's count of the type, and the factor
abbrev pub factor_table : List ((List ℕ → ℕ) × ℕ)
factor_table =
    (new_orders, 0)  -- New Order: Tag 35-MessageType=D
    ∷ (modifications, 1)  -- Order Modification: Tag 35-MessageType=G
    ∷ (cancellations, 3)  -- Order Cancellation: Tag 35-MessageType=F
    ∷ (mass_requests, 3)  -- Order Mass Action Request: Tag 35-MessageType=CA
    ∷ (mass_reports, 3)  -- Order Mass Action Report: Tag 35-MessageType=BZ
    ∷ (fak_fok, 3)  -- TimeInForce: any order submitted with Tag 59-TimeInForce; "FAK or FOK order types" in the section's formula
    ∷ (minimum_quantity, 3)  -- MinQty: any order submitted with Tag 110-MinQty
    ∷ []

-- The Program, section 2: the count of each type is multiplied by its factor, and the products are totaled
abbrev pub weighted : List ((List ℕ → ℕ) × ℕ) → (R : List ℕ) → ℕ
weighted [] R = 0
weighted (row ∷ rows) R = row.0 R * row.1 + weighted rows R

-- Document 02, 2.2: the score follows the factor table
abbrev pub score : (R : List ℕ) → ℕ
score R = weighted factor_table R

-- what the record adds to its cell
unfoldable pub totals_of : (R : List ℕ) → Totals
totals_of R = record { raw = raw_count R; score = score R; lots = lots R }
