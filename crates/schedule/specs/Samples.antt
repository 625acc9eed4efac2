-- A schedule's records for computed examples, as bytes (document 01, "Records", and document 02, 2.9).
-- Assumes nothing.
use Rattle.std.specs.Prelude.{ℕ, List, [], ◌∷◌, ◌++◌}
use Rattle.wire.specs.Bytes.{u16_bytes, u32_bytes}
use Rattle.rules.specs.declared.Rules.{Rules}
use Rattle.records.specs.Bodies.{head_kind, constants_kind, group_kind, firm_kind, head_size, constants_size, least_group, firm_size}

-- a head: October 2019, with these days not in effect
abbrev pub head : (closed : ℕ) → List ℕ
head closed = u16_bytes head_size ++ u16_bytes head_kind ++ u16_bytes 24237 ++ u32_bytes closed

-- the Program's constants
abbrev pub constants : Rules → List ℕ
constants P =
    u16_bytes constants_size ++ u16_bytes constants_kind ++ u32_bytes P.edge1 ++ u32_bytes P.edge2 ++ u32_bytes P.edge3
    ++ u16_bytes P.factor1 ++ u16_bytes P.factor2 ++ u16_bytes P.factor3 ++ u16_bytes P.severe ++ u16_bytes P.waivers ++ u16_bytes P.dollars

-- a group: of this code and exchange grouping, k 64, B 1,000, front 4,095, extra 0, contract 24,239
abbrev pub group : (first second grouping : ℕ) → List ℕ
group first second grouping =
    u16_bytes least_group ++ u16_bytes group_kind ++ (first ∷ second ∷ grouping ∷ 64 ∷ []) ++ u32_bytes 1000 ++ u16_bytes 4095 ++ u16_bytes 0 ++ u16_bytes 24239

-- the code of the firm ABC
abbrev pub ABC : List ℕ
ABC = 65 ∷ 66 ∷ 67 ∷ []

-- its record
abbrev pub firm : List ℕ
firm = u16_bytes firm_size ++ u16_bytes firm_kind ++ ABC
