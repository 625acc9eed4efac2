-- The book: the numbers of every cell in one list; its size, a cell's place in it, and open (document 01, "The book and its calls", and document 02,
-- 2.3).
-- B is the book, S the schedule.
-- Assumes nothing.
use Rattle.std.specs.Prelude.{ℕ, ◌+◌, ◌-◌, ◌*◌, cond, ◌&&◌, List, [], ◌∷◌, ◌≡◌, ltb, length, get_or}
use Rattle.wire.specs.Choose.{within}
use Rattle.wire.specs.Lists.{table, put, over}
use Rattle.rules.specs.Month.{DailyTotals}
use Rattle.refusals.specs.Outcome.{Outcome, refused, good, follow, given}
use Rattle.schedule.specs.Check.{check_of}
use Rattle.lookup.specs.declared.Layout.{Layout}
use Rattle.cell.specs.Cell.{empty, FirmCells, cell_totals}
use Rattle.cell.specs.declared.Cell.{Cell}

-- 2.3: a cell's numbers are four
abbrev pub width : ℕ
width = 4

-- 2.3: 124, the numbers of one firm in one group, for 31 days
abbrev pub per_firm_group : ℕ
per_firm_group = 31 * width

-- 2.3: 124 × G × F
abbrev pub size : Layout → ℕ
size l = per_firm_group * l.groups * l.firms

-- The book and its calls: a cell stands at ((f × G + g) × 31 + day − 1) × 4 (2.3; × 3 before it), f and g counted from 0, G groups
abbrev pub index : (G f g day : ℕ) → ℕ
index G f g day = ((f * G + g) * 31 + day - 1) * width

-- The book and its calls: raw, score, lots at a place and the two after; 2.3: after lots its edition
abbrev pub cell_at : (B : List ℕ) → (i : ℕ) → Cell
cell_at B i =
    record {
      totals = record { raw = get_or B i 0; score = get_or B (i + 1) 0; lots = get_or B (i + 2) 0 };
      edition = get_or B (i + 3) 0;
    }

-- a cell's numbers, as they stand in the book
abbrev pub numbers_of : Cell → List ℕ
numbers_of c = c.totals.raw ∷ c.totals.score ∷ c.totals.lots ∷ c.edition ∷ []

-- the book with this cell there
abbrev pub with_cell : (B : List ℕ) → (i : ℕ) → Cell → List ℕ
with_cell B i c = put i (numbers_of c) B

-- a firm's cells in the book; past the groups, and on days outside 1 to 31, they are empty
abbrev pub cells : (G : ℕ) → (B : List ℕ) → (f : ℕ) → FirmCells
cells G B f g day = cond (ltb g G && within 1 31 day) (cell_at B (index G f g day)) empty

-- their totals
abbrev pub totals_in : (G : ℕ) → (B : List ℕ) → (f : ℕ) → DailyTotals
totals_in G B f = cell_totals (cells G B f)

-- Numbers of refusal, 2.3 and 2.9, of every call that takes a schedule and a book: the schedule's (1 to 7, 37, 38), then 8, a book of so many numbers under
-- 124 × G × F; else what the schedule holds
unfoldable pub check_book : (S : List ℕ) → (numbers : ℕ) → Outcome Layout
check_book S numbers = follow (check_of S) (λ l. cond (ltb numbers (size l)) (refused 8 0) (good l))

-- Open answers a refusal, or nothing more
abbrev pub open_answer : (S B : List ℕ) → Outcome (Unit {0})
open_answer S B = follow (check_book S (length B)) (λ l. good tt)

-- Open and 2.3: the first 124 × G × F numbers are set to zero; on a refusal every buffer is unchanged
abbrev pub open_book : (S B : List ℕ) → List ℕ
open_book S B = given (check_book S (length B)) B (λ l. over (table (size l) (λ i. 0)) B)

-- what open promises, of what it answers and of the book before and after
pub record OpenIs (S B : List ℕ) (a : Outcome (Unit {0})) (B' : List ℕ) : Type 0 where
  pub answer : a ≡ open_answer S B
  pub book : B' ≡ open_book S B
