-- The lines that mep-statement prints (document 01, "Eleven marked days, a month and one whole run", and document 02, 2.6). C is a firm's code, L a line
-- of its statement, T one of its totals.
-- Assumes nothing.
use Rattle.std.specs.Prelude.{ℕ, List, [], ◌∷◌, ◌++◌, eqb}
use Rattle.wire.specs.Choose.{choose}
use Rattle.statement.specs.Layout.{line_day, line_first, line_second, line_mark, line_dollars}
use Rattle.statement.specs.Layout.{totals_grouping, totals_violations, totals_monthly, totals_automatic, totals_granted, totals_billed, totals_dollars}
use Rattle.text.specs.Text.{text, decimal, field}
use Rattle.text.specs.declared.lines.Line.{Line}
use Rattle.text.specs.declared.lines.Line.TheVariants as line

-- an input of more than 65,536 bytes
abbrev pub too_long : List ℕ
too_long = text "too long\n"

-- heading with month number
unfoldable pub heading : (month : ℕ) → List ℕ
heading month = text "MPS " ++ decimal month ++ text "\n"

-- a refused record
unfoldable pub refused_line : (number : ℕ) → List ℕ
refused_line number = text "refused " ++ decimal number ++ text "\n"

-- a refused schedule or book
unfoldable pub refused_at : (number offset : ℕ) → List ℕ
refused_at number offset = text "refused " ++ decimal number ++ text " at " ++ decimal offset ++ text "\n"

-- the line that each of these is
abbrev pub line_text : Line → List ℕ
line_text line.TooLong = too_long
line_text (line.Heading month) = heading month
line_text (line.Refused number) = refused_line number
line_text (line.RefusedAt number offset) = refused_at number offset

-- the words of the marks: 1 severe, 2 billed, 3 monthly, 4 automatic; 5, which 2.6 adds and no line of the program has, granted
unfoldable pub mark_word : (mark : ℕ) → List ℕ
mark_word mark =
    choose
    ((eqb mark 1, text "severe") ∷ (eqb mark 2, text "billed") ∷ (eqb mark 3, text "monthly") ∷ (eqb mark 4, text "automatic") ∷ [])
    (text "granted")

-- the numbers of the totals in the record's order; 2.6: granted after automatic
unfoldable pub counts : (T : List ℕ) → List ℕ
counts T =
    field (totals_violations T) ++ field (totals_monthly T) ++ field (totals_automatic T) ++ field (totals_granted T) ++ field (totals_billed T)
    ++ field (totals_dollars T)

module _ (C : List ℕ) where
  -- a violation: firm, day, group, mark, dollars; 2.1: printed lines don't show the factor
  unfoldable pub violation_line : (L : List ℕ) → List ℕ
  violation_line L =
      C ++ field (line_day L) ++ text " " ++ (line_first L ∷ line_second L ∷ []) ++ text " " ++ mark_word (line_mark L) ++ field (line_dollars L) ++ text "\n"

  -- totals in the record's order
  unfoldable pub totals_line : (T : List ℕ) → List ℕ
  totals_line T = C ++ text " grouping" ++ field (totals_grouping T) ++ text ":" ++ counts T ++ text "\n"
