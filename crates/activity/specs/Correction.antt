-- A correction's fields (document 02, 2.3). R is the whole record; its firm, day and group stand where an activity record has them (Activity.antt).
-- `Correction` is the struct of src/correction.rt.
-- Assumes nothing.
use Rattle.std.specs.Prelude.{ℕ, Bool, List, [], ◌∷◌, leb, eqb}
use Rattle.wire.specs.Bytes.{u16_at, u32_at}
use Rattle.wire.specs.Choose.{all}
use Rattle.records.specs.Bodies.{kind_at}
use Rattle.activity.specs.declared.correction.Correction.{Correction}

-- 2.3: kind 8, 32 bytes
abbrev pub correction_kind : ℕ
correction_kind = 8

abbrev pub correction_length : ℕ
correction_length = 32

-- 2.3: a record whose kind is 8
abbrev pub is_correction : (R : List ℕ) → Bool
is_correction R = eqb (kind_at R 0) correction_kind

-- 2.3: zero u16 at 10, edition u32 at 12, then raw, score and lots as u32 at 16, 20 and 24, and zero u32 at 28
unfoldable pub correction_fields : (R : List ℕ) → Correction
correction_fields R =
    record {
      zero16 = u16_at R 10;
      edition = u32_at R 12;
      totals = record { raw = u32_at R 16; score = u32_at R 20; lots = u32_at R 24 };
      zero32 = u32_at R 28;
    }

-- 2.3: the zero fields are zero, and the edition is 1 or more
abbrev pub is_sound : Correction → Bool
is_sound c = all (eqb c.zero16 0 ∷ leb 1 c.edition ∷ eqb c.zero32 0 ∷ [])
