-- Records of activity and corrections for computed examples, as bytes (document 01, "Records", and document 02, 2.3).
-- Assumes nothing.
use Rattle.std.specs.Prelude.{ℕ, List, [], ◌∷◌, ◌++◌}
use Rattle.wire.specs.Bytes.{u16_bytes, u32_bytes}
use Rattle.schedule.specs.Samples.{head, group, ABC, firm}
use Rattle.activity.specs.Activity.{activity_kind, activity_length}
use Rattle.activity.specs.Correction.{correction_kind, correction_length}

-- a record of its activity, with its eight counts in their order
abbrev pub activity : (first second day contract : ℕ) → (new modified cancelled fak_fok requests reports minimum lots : ℕ) → List ℕ
activity first second day contract new modified cancelled fak_fok requests reports minimum lots =
    u16_bytes activity_length ++ u16_bytes activity_kind ++ ABC ++ (day ∷ first ∷ second ∷ []) ++ u16_bytes contract
    ++ u32_bytes new ++ u32_bytes modified ++ u32_bytes cancelled ++ u32_bytes fak_fok ++ u32_bytes requests ++ u32_bytes reports ++ u32_bytes minimum ++ u32_bytes lots

-- a correction of its cell, with the two fields that must be zero
abbrev pub correction_with : (zero16 zero32 : ℕ) → (first second day edition raw score lots : ℕ) → List ℕ
correction_with zero16 zero32 first second day edition raw score lots =
    u16_bytes correction_length ++ u16_bytes correction_kind ++ ABC ++ (day ∷ first ∷ second ∷ []) ++ u16_bytes zero16
    ++ u32_bytes edition ++ u32_bytes raw ++ u32_bytes score ++ u32_bytes lots ++ u32_bytes zero32

-- a correction of its cell
abbrev pub correction : (first second day edition raw score lots : ℕ) → List ℕ
correction = correction_with 0 0

-- a record of ABC in a group: new orders, modifications, cancellations and lots
abbrev pub orders : (first second day new modified cancelled lots : ℕ) → List ℕ
orders first second day new modified cancelled lots = activity first second day 24239 new modified cancelled 0 0 0 0 lots

-- raw and score of the fifth marked day (122,000, 143,000), with so many lots: code 4 with 10,000, a pass with 20,000
abbrev pub fifth : (first second day lots : ℕ) → List ℕ
fifth first second day lots = orders first second day 39000 53000 30000 lots

-- the ninth marked day (60,001, 60,001, 1,000): code 5
abbrev pub ninth : (first second day : ℕ) → List ℕ
ninth first second day = orders first second day 0 60001 0 1000

-- the seventh (20,001, 3, 0): code 5, in the lowest tier
abbrev pub seventh : (first second day : ℕ) → List ℕ
seventh first second day = orders first second day 20000 0 1 0

-- the eleventh (40,001, 30,000, 1,000): code 4, in the middle tier
abbrev pub eleventh : (first second day : ℕ) → List ℕ
eleventh first second day = orders first second day 10001 30000 0 1000

-- these days not in effect, constants or none; ES and ZC of grouping 1, CL of grouping 2
abbrev pub groups_under : (closed : ℕ) → (set : List ℕ) → List ℕ
groups_under closed set = head closed ++ set ++ group 69 83 1 ++ group 67 76 2 ++ group 90 67 1 ++ firm

-- day 2 not in effect, and no constants
abbrev pub three_groups : List ℕ
three_groups = groups_under 2 []

-- one failing day more in ES on the day not in effect, one in CL, and one in ZC, which has many lots on another day; in each tier one at least
abbrev pub many_marks : List (List ℕ)
many_marks =
    fifth 69 83 1 10000 ∷ fifth 69 83 2 10000 ∷ fifth 69 83 3 10000 ∷ fifth 69 83 4 10000 ∷ seventh 69 83 5
    ∷ eleventh 67 76 1 ∷ fifth 90 67 1 10000 ∷ orders 90 67 6 1 0 0 1000000 ∷ []
