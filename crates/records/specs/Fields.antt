-- The fields of heads, constants, groups and firms, with their ranges (document 01, "Records", and document 02, 2.9).
-- B is a record's body, which starts after length and kind: offsets in it are document 01's less 4.
-- Assumes nothing.
use Rattle.std.specs.Prelude.{ℕ, ◌/◌, ◌^◌, Bool, ◌||◌, List, [], ◌∷◌, eqb, length, get_or}
use Rattle.std.specs.List.{list_all}
use Rattle.std.specs.Str.{bytes_eq}
use Rattle.wire.specs.Bytes.{u16_at, u32_at}
use Rattle.wire.specs.Choose.{all, within}
use Rattle.calendar.specs.Calendar.{is_month, days_in}
use Rattle.rules.specs.Verdict.{is_benchmark}
use Rattle.rules.specs.declared.Rules.{Rules}
use Rattle.records.specs.declared.fields.Head.{Head}
use Rattle.records.specs.declared.fields.Group.{Group}
use Rattle.records.specs.declared.fields.Firm.{Firm}

-- Records, kind 1: month number u16 at 4; u32 at 6, bit d − 1 set where day d is not in effect
unfoldable pub head_fields : (B : List ℕ) → Head
head_fields B = record { month = u16_at B 0; closed = u32_at B 2 }

-- Records: a month number; bits past the month's end are zero
unfoldable pub head_ok : Head → Bool
head_ok h = all (is_month h.month ∷ eqb (h.closed / 2 ^ days_in h.month) 0 ∷ [])

-- 2.9, kind 6: three raw edges, u32 at 4, 8 and 12; as u16 the three factors of the tiers from low to high at 16, 18 and 20, the severe multiple at 22,
-- automatic waivers at 24 and dollars at 26. Their ranges and their order: rules/specs/Constants.antt
unfoldable pub constants_fields : (B : List ℕ) → Rules
constants_fields B =
    record {
      edge1 = u32_at B 0;
      edge2 = u32_at B 4;
      edge3 = u32_at B 8;
      factor1 = u16_at B 12;
      factor2 = u16_at B 14;
      factor3 = u16_at B 16;
      severe = u16_at B 18;
      waivers = u16_at B 20;
      dollars = u16_at B 22;
    }

-- Records, kind 2: code at 4; grouping at 6; k at 7; B u32 at 8; front mask u16 at 12; extra mask u16 at 14
unfoldable pub group_fields : (B : List ℕ) → Group
group_fields B =
    record {
      code = get_or B 0 0 ∷ get_or B 1 0 ∷ [];
      grouping = get_or B 2 0;
      k = get_or B 3 0;
      benchmark = u32_at B 4;
      front = u16_at B 8;
      extra = u16_at B 10;
    }

-- Records: a letter of a code is one of A–Z, 0–9
unfoldable pub is_letter : ℕ → Bool
is_letter x = within 65 90 x || within 48 57 x

-- Records: every letter of a code is one
abbrev pub are_letters : (C : List ℕ) → Bool
are_letters C = list_all is_letter C

-- Records, kind 2: code (two of A–Z, 0–9); grouping (1 CME/CBOT, 2 NYMEX/COMEX); k (1 to 64); B, a benchmark; front mask (1 to 4,095); extra
-- mask (0 to 4,095)
unfoldable pub group_in_range : Group → Bool
group_in_range g =
    all
    (are_letters g.code
    ∷ within 1 2 g.grouping
    ∷ within 1 64 g.k
    ∷ is_benchmark g.benchmark
    ∷ within 1 4095 g.front
    ∷ within 0 4095 g.extra
    ∷ [])

-- Records, kind 3: code at 4
unfoldable pub firm_fields : (B : List ℕ) → Firm
firm_fields B = record { code = get_or B 0 0 ∷ get_or B 1 0 ∷ get_or B 2 0 ∷ [] }

-- Records, kind 3: code (three of A–Z, 0–9)
unfoldable pub firm_ok : Firm → Bool
firm_ok f = are_letters f.code

-- C is a code of three letters, those of A; a code of another length is nobody's
abbrev pub same_code : (A C : List ℕ) → Bool
same_code A C =
    all
    (eqb (length C) 3
    ∷ eqb (get_or A 0 0) (get_or C 0 0)
    ∷ eqb (get_or A 1 0) (get_or C 1 0)
    ∷ eqb (get_or A 2 0) (get_or C 2 0)
    ∷ [])

-- the firm's code is C, which so has three letters too
unfoldable pub has_code : Firm → (C : List ℕ) → Bool
has_code f C = bytes_eq f.code C
