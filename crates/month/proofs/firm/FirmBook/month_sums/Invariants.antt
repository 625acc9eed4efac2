-- The sums are those of the days before this one. A counted day is in effect, so its totals are within the limit, and no sum overflows.
use Rattle.std.proofs.Common.{◌≡◌, ◌-◌, ◌≤◌}
use Rattle.month.specs.Parts.{sums_to}
use Rattle.month.specs.Firm.{terms_of, totals_of}
use Rattle.month.proofs.firm.FirmBook.month_sums.Given as goal

abbrev pub invariant-loop-day : goal.invariant-loop-day
invariant-loop-day l =
    let s = l.self in
    (1 ≤ l.day) × (l.sums ≡ sums_to (terms_of s) (totals_of s) l.group (l.day - 1))
