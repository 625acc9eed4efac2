-- The reason for a place as a month's arrays give it. The public contract does not cite these.
-- Assumes nothing.
use Rattle.std.specs.Prelude.{ℕ, Bool, List, Option, Some, None, get_or}
use Rattle.rules.specs.Constants.{clamped}
use Rattle.rules.specs.Verdict.{day_sides}
use Rattle.rules.specs.Marks.{day_of, group_of}
use Rattle.rules.specs.declared.Sides.{Sides}
use Rattle.records.specs.declared.fields.Group.{Group}
use Rattle.lookup.specs.InForce.{rules_of}
use Rattle.book.specs.Book.{totals_in}
use Rattle.month.specs.Parts.{no_group, held_mark, held_fields, held_grouping}
use Rattle.month.specs.declared.days.MonthSums.{MonthSums}
use Rattle.month.specs.declared.Month.{Month}
use Rattle.reason.specs.Beside.{Reason, is_automatic, number_at, waivers_in, reason_by}
use Rattle.reason.specs.declared.firm.FirmMonth.{FirmMonth}
use Rattle.reason.specs.declared.waivers.LastTwo.{LastTwo}

-- the exchange grouping of a place
abbrev pub grouping_in : FirmMonth → (i : ℕ) → ℕ
grouping_in x = held_grouping x.month.now

-- its mark
abbrev pub marks_in : FirmMonth → (i : ℕ) → ℕ
marks_in x = held_mark x.month.now

-- a group's fields
abbrev pub fields_in : FirmMonth → (g : ℕ) → Group
fields_in x = held_fields x.schedule.now x.month.now

-- and its sums
abbrev pub held_sums : Month → (g : ℕ) → MonthSums
held_sums m g = (get_or m.groups g no_group).sums

-- the sides of a day's comparison, zeros where 24 refuses the day
abbrev pub sides_or : Option Sides → Sides
sides_or None = record { scored = 0; allowed = 0 }
sides_or (Some s) = s

-- those of a place's cell
abbrev pub held_sides : (S B : List ℕ) → Month → (i : ℕ) → Sides
held_sides S B m i =
    sides_or (day_sides (clamped (rules_of S)) (totals_in m.layout.groups B m.firm (group_of i) (day_of i)) (held_fields S m (group_of i)).benchmark)

abbrev pub sides_in : FirmMonth → (i : ℕ) → Sides
sides_in x = held_sides x.schedule.now x.book.now x.month.now

-- the automatic lines of an exchange grouping
abbrev pub automatic_in : FirmMonth → (e i : ℕ) → Bool
automatic_in x = is_automatic (grouping_in x) (marks_in x)

-- an automatic line's number
abbrev pub number_in : FirmMonth → (i : ℕ) → ℕ
number_in x = number_at (grouping_in x) (marks_in x)

-- the last two of a grouping
abbrev pub two_in : FirmMonth → (e : ℕ) → LastTwo
two_in x = waivers_in (grouping_in x) (marks_in x)

-- the reason for a place
abbrev pub held_reason : (S B : List ℕ) → Month → (i : ℕ) → Reason
held_reason S B m = reason_by (held_fields S m) (held_sums m) (held_sides S B m) (held_grouping m) (held_mark m)

abbrev pub reason_in : FirmMonth → (i : ℕ) → Reason
reason_in x = held_reason x.schedule.now x.book.now x.month.now
