-- The scan from the place p, with fuel for the bytes that are left, has the answer of the whole; each accepted record moves p on,
-- in bounds.
use Rattle.std.proofs.Common.{true, is_ok, Result, Ok, Err}
use Rattle.refusals.specs.declared.Cause.{Cause}
use Rattle.refusals.specs.Outcome.{cause_number}
use Prim.Native.Nat.{◌+◌, ◌-◌}
use mathlib.Core.Path.{◌≡◌, refl, sym, ◌∙◌}
use native.Mathlib.Omega.{arith}
use lib.ListN.{length}
use borrow.Author.Rules.{rules}
use Rattle.schedule.specs.Check.{begin, cause, check_of}
use Rattle.schedule.proofs.Turns.{scan_next, accepted}
use Rattle.schedule.proofs.scan.check.Goals as goal

-- an answer that is no refusal has the number 0
ok_is_0 : (r : Result (Unit {0}) Cause) → is_ok r ≡ true → cause_number r ≡ 0
ok_is_0 (Ok u) e = refl
ok_is_0 (Err c) e = cc

pub loop-place-init : goal.loop-place-init
unfolding check_of
loop-place-init c =
    let start : c.default-place.result ≡ begin = search rules in
    rw start (length c.args.schedule.now + 1, omega arith, refl, record { inside = omega arith; groups = omega arith; firms = omega arith; near = omega arith })

pub loop-place-preserved : goal.loop-place-preserved
loop-place-preserved c =
    let i = c.loop-place.invariant in
    let z : cause c.args.schedule.now c.loop-place.place ≡ 0 = sym c.check_record.ensures ∙ ok_is_0 _ (sym c.in_ok-map_err.ensures.variant) in
    let on = accepted _ _ c.loop-place-test.true z i.3 in
    rw c.next_place-place.ensures (i.0 - 1, omega arith, i.2 ∙ scan_next _ _ i.0 (omega arith) c.loop-place-test.true z, on.0)
