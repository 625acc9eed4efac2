-- What a counted record makes of its cell, and the causes of the cell that refuse it (document 01, "The book and its calls" and "Numbers of refusal",
-- and document 02, 2.3). c is the cell, R the record.
-- Assumes nothing.
use Rattle.std.specs.Prelude.{ℕ, Bool, cond, not, ◌&&◌, List, [], ◌∷◌, leb, ltb}
use Rattle.rules.specs.Verdict.{fits}
use Rattle.refusals.specs.Outcome.{Outcome, good, asked}
use Rattle.activity.specs.Activity.{is_activity, totals_of}
use Rattle.activity.specs.Correction.{correction_fields}
use Rattle.activity.specs.declared.correction.Correction.{Correction}
use Rattle.cell.specs.Cell.{grown}
use Rattle.cell.specs.declared.Cell.{Cell}

-- 2.3: a correction sets its cell's totals and edition to its own
abbrev pub corrected : Correction → Cell
corrected k = record { totals = k.totals; edition = k.edition }

-- the cell after the record, which is activity or a correction (12 refuses the rest): the one adds to its totals, the other replaces it, whatever
-- stood there
abbrev pub entered : (c : Cell) → (R : List ℕ) → Cell
entered c R = cond (is_activity R) (grown c (totals_of R)) (corrected (correction_fields R))

-- 2.3, 32: activity in a corrected cell, or an edition not above the cell's; directly after it Numbers of refusal, 18: activity after which a total of
-- the cell would be above 10,000,000,000 (a correction's totals have four bytes each)
abbrev pub cell_causes : (c : Cell) → (R : List ℕ) → List (Bool × ℕ)
cell_causes c R =
    (cond (is_activity R) (ltb 0 c.edition) (leb (correction_fields R).edition c.edition), 32)
    ∷ (is_activity R && not (fits 1 (grown c (totals_of R)).totals), 18)
    ∷ []

-- what a counted record comes to in its cell
abbrev pub entry_of : (c : Cell) → (R : List ℕ) → Outcome Cell
entry_of c R = asked (cell_causes c R) (good (entered c R))
