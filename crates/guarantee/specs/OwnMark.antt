-- The reason's mark is the statement's own, in the bytes that the statement writes (document 02, 2.7 and 2.9): of every book, and not only of those that posts leave.
-- S is the schedule, B the book, C the firm's code, G the grants, out the output before and out' after the statement, `code` a group's code. Proved in
-- proofs/OwnMark.antt: of all of them, and of every day.
-- Assumes nothing.
use Rattle.std.specs.Prelude.{ℕ, ◌-◌, ◌*◌, ◌/◌, ◌<◌, Bool, true, false, not, ◌&&◌, List, [], ◌∷◌, ◌≡◌, eqb, drop}
use Rattle.std.specs.Str.{bytes_eq}
use Rattle.wire.specs.Choose.{some, within}
use Rattle.refusals.specs.Outcome.{Outcome, refused, good}
use Rattle.lookup.specs.Lookup.{group_at, group_place}
use Rattle.lookup.specs.InForce.{rules_of}
use Rattle.statement.specs.Layout.{line_size, both_totals, line_day, line_first, line_second, line_mark}
use Rattle.statement.specs.Statement.{statement_answer, statement_output}
use Rattle.reason.specs.Beside.{Reason}
use Rattle.reason.specs.Reason.{reason_answer}
use Rattle.reason.specs.Taken.{Taken}
use Rattle.guarantee.specs.Demand3.{layout}

-- Statement, a line: its group's code
abbrev pub line_code : (L : List ℕ) → List ℕ
line_code L = line_first L ∷ line_second L ∷ []

-- a line is for a day and for the group with a code
abbrev pub is_for : (day : ℕ) → (code L : List ℕ) → Bool
is_for day code L = eqb (line_day L) day && bytes_eq (line_code L) code

-- Records: the exchange grouping of the group with a code
abbrev pub grouping_of : (S code : List ℕ) → ℕ
grouping_of S code = (group_at S (layout S) (group_place S (layout S) code)).grouping

-- Statement: the lines of so many bytes stand before two totals
abbrev pub lines_in : (written : ℕ) → ℕ
lines_in written = (written - both_totals) / line_size

-- Statement: each line into the output after the last; line k, from 0
abbrev pub line_of : (out' : List ℕ) → (k : ℕ) → List ℕ
line_of out' k = drop (line_size * k) out'

-- one of the lines is for a day and for the group with a code
abbrev pub has_line : (out' : List ℕ) → (written day : ℕ) → (code : List ℕ) → Bool
has_line out' written day code = some (lines_in written) (λ k. is_for day code (line_of out' k))

-- of a statement of so many bytes, and of a day and a group
module _ (S out' : List ℕ) (written day : ℕ) (code : List ℕ) where
  -- line k
  abbrev pub line : (k : ℕ) → List ℕ
  line = line_of out'

  -- line k is an automatic one of the group's exchange grouping
  abbrev pub is_waiver : (k : ℕ) → Type 0
  is_waiver k = (line_mark (line k) ≡ 4) × (grouping_of S (line_code (line k)) ≡ grouping_of S code)

  -- 2.7: the day and group code that line k has
  abbrev pub named : (k : ℕ) → List ℕ
  named k = line_day (line k) ∷ line_code (line k)

  -- 2.7 and 2.9, billed: the values end, after R, S, V and d, with the days and group codes of the last two automatic lines of the statement in that grouping,
  -- which stand before the day's own line, and with zeros for each missing one
  pub record WaiverLines (values : List ℕ) : Type 0 where
    pub k : ℕ
    pub own : is_for day code (line k) ≡ true
    pub inside : k < lines_in written
    pub taken : Taken (lines_in written) k is_waiver named (drop 4 values) (rules_of S).waivers

  -- 2.7: the statement has a line for that day and group exactly when the reason is a violation, and that line's mark is the reason's
  pub record Agrees (r : Reason) : Type 0 where
    pub violation : has_line out' written day code ≡ not (eqb r.mark 0)
    pub own_mark : (k : ℕ) → k < lines_in written → is_for day code (line k) ≡ true → line_mark (line k) ≡ r.mark
    pub waivers : r.mark ≡ 2 → WaiverLines r.values

  -- 2.7: so it is with a reason; and what is refused is 15 or 16, a group or day that no line is for
  abbrev pub Own : Outcome Reason → Type 0
  Own (good r) = Agrees r
  Own (refused n o) = (within 15 16 n ≡ true) × (has_line out' written day code ≡ false)

-- 2.7: its mark is the statement's own, wherever the statement is written
abbrev pub OwnMark : (S B C G out : List ℕ) → (day : ℕ) → (code : List ℕ) → Type 0
OwnMark S B C G out day code =
    (written : ℕ) → statement_answer S B C G out ≡ good written → Own S (statement_output S B C G out) written day code (reason_answer S B C day code G)
