-- Beside demand 3, of the same runs: what each line of a statement shows of its place, byte by byte (document 01, "The book and its calls",
-- statement, and document 02, 2.1, 2.6 and 2.9). Proved in proofs/EachLine.antt: of every schedule and every firm that it lists.
-- Assumes nothing.
use Rattle.std.specs.Prelude.{ℕ, ◌*◌, ◌<◌, Bool, true, List, ◌≡◌, drop}
use Rattle.wire.specs.Sums.{count}
use Rattle.rules.specs.Verdict.{verdict, is_violation}
use Rattle.rules.specs.Marks.{places, day_of, group_of, cost, mark}
use Rattle.rules.specs.declared.Rules.{Rules}
use Rattle.rules.specs.declared.Verdict.{Verdict}
use Rattle.records.specs.Bodies.{length_at, kind_at}
use Rattle.records.specs.declared.fields.Group.{Group}
use Rattle.lookup.specs.Lookup.{group_at}
use Rattle.lookup.specs.InForce.{rules_of}
use Rattle.statement.specs.Layout.{line_size, line_kind, line_day, line_first, line_second, line_mark, line_dollars, line_factor}
use Rattle.statement.specs.Lines.{first_letter, second_letter}
use Rattle.guarantee.specs.Demand3.{layout, totals_after, Run, output_of, month, GrantsTaken}

-- a line L under the rules P: its day, its group's code, its mark and what that costs, and the factor of its verdict
pub record LineIs (P : Rules) (L : List ℕ) (day : ℕ) (group : Group) (mark : ℕ) (v : Verdict) : Type 0 where
  pub length : length_at L 0 ≡ line_size
  pub kind : kind_at L 0 ≡ line_kind
  pub day_is : line_day L ≡ day
  pub first : line_first L ≡ first_letter group
  pub second : line_second L ≡ second_letter group
  pub mark_is : line_mark L ≡ mark
  pub dollars : line_dollars L ≡ cost P mark
  -- 2.1: the factor in the last byte
  pub factor : line_factor L ≡ v.factor

-- the fields of the group of place i
abbrev pub group_shown : (S : List ℕ) → (i : ℕ) → Group
group_shown S i = group_at S (layout S) (group_of i)

module _ (S C : List ℕ) (p : Run S C) where
  -- place i is a violation of the firm's month
  abbrev pub is_violation_at : (i : ℕ) → Bool
  is_violation_at i = is_violation ((month S C p).verdict i).code

  -- Statement: each line into the output after the last; the line of place i stands behind those of the violations before it
  abbrev pub line_shown : (i : ℕ) → List ℕ
  line_shown i = drop (line_size * count i is_violation_at) (output_of S C p)

  -- The day's verdict, on the accepted totals of its cell
  abbrev pub cell_verdict : (i : ℕ) → Verdict
  cell_verdict i = verdict (rules_of S) (group_shown S i).benchmark 1 (totals_after S C p.posts (group_of i) (day_of i))

-- every violation of the firm has its line, where 34 and 35 don't refuse the grants: its day and group, its mark in the month, and the factor of its
-- cell's accepted totals
abbrev pub EachLine : (S C : List ℕ) → Type 0
EachLine S C =
    (p : Run S C) → GrantsTaken S C p → (i : ℕ) → i < places → is_violation_at S C p i ≡ true
    → LineIs (rules_of S) (line_shown S C p i) (day_of i) (group_shown S i) (mark (rules_of S) (month S C p) i) (cell_verdict S C p i)
