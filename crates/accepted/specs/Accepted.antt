-- Lists of posts: accepted totals and editions, a firm's own posts, and the book after a list (document 01, "The book and its calls", on demand 3,
-- and document 02, 2.3 and 2.5).
-- S is the schedule, rs the list of posted records, each any bytes.
-- Assumes nothing.
use Rattle.std.specs.Prelude.{ℕ, Bool, cond, ◌&&◌, eqb}
use mathlib.Core.List.{List, foldl, map}
use Rattle.records.specs.Fields.{same_code}
use Rattle.wire.specs.Bytes.{are_bytes}
use Rattle.wire.specs.Choose.{choose, all}
use Rattle.wire.specs.Lists.{keep}
use Rattle.rules.specs.Month.{DailyTotals}
use Rattle.refusals.specs.Outcome.{given}
use Rattle.schedule.specs.Check.{check_of}
use Rattle.lookup.specs.declared.Layout.{Layout}
use Rattle.activity.specs.Activity.{firm_code, day}
use Rattle.filing.specs.Causes.{form_causes, firm_place_of, group_place_of}
use Rattle.cell.specs.Cell.{empty, FirmCells, cell_totals}
use Rattle.cell.specs.Entry.{entered}
use Rattle.book.specs.Post.{is_taken, taking, post_book}
use Rattle.cell.specs.declared.Cell.{Cell}

module _ (S : List ℕ) (l : Layout) (f g d : ℕ) where
  -- the record's cell is that of firm f, group g and day d
  abbrev pub is_at : (R : List ℕ) → Bool
  is_at R = eqb (firm_place_of S l R) f && (eqb (group_place_of S l R) g && eqb (day R) d)

  -- Accepted totals: a record adds its own to its cell's when its day is in effect, its contract is counted and no cause that concerns a
  -- posted record refuses it, 18 being asked of these totals; every other record adds nothing. 2.3: a correction that is neither refused nor
  -- outside sets its cell's totals and edition to its own, and 32 is asked of that edition
  abbrev pub accept : Cell → (R : List ℕ) → Cell
  accept c R = cond (is_at R && is_taken (taking S l c R)) (entered c R) c

-- a firm's cells, from the schedule and the list alone: raw, score and lots start at 0, and so does the edition
unfoldable pub accepted_cells : (S : List ℕ) → (rs : List (List ℕ)) → (f : ℕ) → FirmCells
accepted_cells S rs f g d = given (check_of S) empty (λ l. foldl (accept S l f g d) empty rs)

-- Accepted totals of a firm's cells
abbrev pub accepted : (S : List ℕ) → (rs : List (List ℕ)) → (f : ℕ) → DailyTotals
accepted S rs f = cell_totals (accepted_cells S rs f)

-- A firm's own posts: the records that 11 to 13 don't refuse and that carry its code C at 4
abbrev pub is_own : (C R : List ℕ) → Bool
is_own C R = eqb (choose (form_causes R) 0) 0 && same_code (firm_code R) C

-- whether refused later or not, in their order
abbrev pub own : (C : List ℕ) → (rs : List (List ℕ)) → List (List ℕ)
own C rs = keep (is_own C) rs

-- any bytes may be posted: each record of the list is of bytes
unfoldable pub of_bytes : (rs : List (List ℕ)) → Bool
of_bytes rs = all (map are_bytes rs)

-- the book after a list: each post takes the book as the one before left it
unfoldable pub posted : (S B : List ℕ) → (rs : List (List ℕ)) → List ℕ
posted S B rs = foldl (post_book S) B rs
