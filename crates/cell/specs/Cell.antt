-- A cell: what is kept of one firm, one product group and one day (document 01, "The day's verdict" and "The book and its calls", and document 02, 2.3).
-- `Cell` is the struct of src/lib.rt: its totals and its edition.
-- Assumes nothing.
use Rattle.std.specs.Prelude.{ℕ, ◌+◌, Bool, ◌&&◌, leb}
use Rattle.rules.specs.Verdict.{limit, fits}
use Rattle.rules.specs.Month.{DailyTotals}
use Rattle.rules.specs.declared.Totals.{Totals}
use Rattle.cell.specs.declared.Cell.{Cell}

-- no messages, no lots
abbrev pub none : Totals
none = record { raw = 0; score = 0; lots = 0 }

-- a cell as open leaves it; 2.3: its edition is 0 until corrected
abbrev pub empty : Cell
empty = record { totals = none; edition = 0 }

-- t and a, added
abbrev pub plus : (t a : Totals) → Totals
plus t a = record { raw = t.raw + a.raw; score = t.score + a.score; lots = t.lots + a.lots }

-- the cell c, to whose totals a were added
abbrev pub grown : (c : Cell) → (a : Totals) → Cell
grown c a = record { totals = plus c.totals a; edition = c.edition }

-- Numbers of refusal, 22: no number of a cell is above 10,000,000,000; 2.3: the edition is one of them
abbrev pub is_within : Cell → Bool
is_within c = fits 1 c.totals && leb c.edition limit

-- a firm's cells, by group and day
abbrev pub FirmCells : Type 0
FirmCells = (g day : ℕ) → Cell

-- their totals, by which alone days and months are judged
abbrev pub cell_totals : FirmCells → DailyTotals
cell_totals c g day = (c g day).totals
