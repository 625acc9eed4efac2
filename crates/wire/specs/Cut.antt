-- A run of records, cut by length fields (document 01, "Eleven marked days, a month and one whole run").
-- Assumes nothing.
use Rattle.std.specs.Prelude.{ℕ, zero, suc, cond, List, [], ◌∷◌, eqb, length, take, drop}
use Rattle.wire.specs.Bytes.{u16_at}
use Rattle.wire.specs.Choose.{within}
use Rattle.wire.specs.declared.Records.{Records}

-- how many bytes the first record of a run takes: its length field says it; a length under four or past the end, or a tail under four bytes,
-- takes all the rest as one record
unfoldable pub first_length : List ℕ → ℕ
first_length S = cond (within 4 (length S) (u16_at S 0)) (u16_at S 0) (length S)

-- the records of a run, at most `fuel` of them
unfoldable pub cut_in : (fuel : ℕ) → List ℕ → List (List ℕ)
cut_in zero S = []
cut_in (suc fuel) S = cond (eqb (length S) 0) [] (take (first_length S) S ∷ cut_in fuel (drop (first_length S) S))

-- all of them; each has a byte, so the run's length is fuel enough
abbrev pub cut : List ℕ → List (List ℕ)
cut S = cut_in (length S) S

-- the records that an iterator has left
abbrev pub records_in : Records → List (List ℕ)
records_in r = cut r.rest.now
