-- What mep-statement reads: a schedule, then activity, all cut by length fields (document 01, "Eleven marked days, a month and one whole run", and
-- document 02, 2.3). I is the whole input.
-- Assumes nothing.
use Rattle.std.specs.Prelude.{ℕ, Bool, cond, ◌&&◌, ◌||◌, List, [], ◌∷◌, ◌++◌, leb, length}
use Rattle.wire.specs.Cut.{cut}
use Rattle.activity.specs.Activity.{is_activity}
use Rattle.activity.specs.Correction.{is_correction}

-- reads standard input, at most 65,536 bytes
abbrev pub input_limit : ℕ
input_limit = 65536

-- 2.3: a record of four bytes or more whose kind is 4 or 8
abbrev pub begins_activity : (R : List ℕ) → Bool
begins_activity R = leb 4 (length R) && (is_activity R || is_correction R)

-- the bytes of the records before the first of those
unfoldable pub bytes_before : (rs : List (List ℕ)) → List ℕ
bytes_before [] = []
bytes_before (R ∷ rs) = cond (begins_activity R) [] (R ++ bytes_before rs)

-- the records from the first of those on, whatever their kinds
unfoldable pub records_from : (rs : List (List ℕ)) → List (List ℕ)
records_from [] = []
records_from (R ∷ rs) = cond (begins_activity R) (R ∷ rs) (records_from rs)

-- a schedule, then from the first kind 4 or 8 on activity (if there is none, all is schedule): the schedule
abbrev pub schedule_of : (I : List ℕ) → List ℕ
schedule_of I = bytes_before (cut I)

-- and the activity, each record of which is posted
abbrev pub activity_of : (I : List ℕ) → List (List ℕ)
activity_of I = records_from (cut I)
