-- The scan from the place p, with fuel for the bytes that are left, has the answer of the whole; each accepted record moves p on,
-- in bounds.
use Prim.Native.Nat.{ℕ, ◌-◌, ◌<◌}
use mathlib.Core.Path.{◌≡◌}
use lib.ListN.{length}
use Rattle.schedule.specs.Check.{check_of, scan}
use Rattle.schedule.specs.Check.{Fine}
use Rattle.schedule.proofs.scan.check.Given as goal

abbrev pub invariant-loop-place : goal.invariant-loop-place
invariant-loop-place l = (n : ℕ) × (length l.schedule - l.place.at < n) × (check_of l.schedule ≡ scan l.schedule n l.place) × Fine l.schedule l.place

abbrev pub decreases-loop-place : goal.decreases-loop-place
decreases-loop-place l = length l.schedule - l.place.at
