-- 36 is asked of the new day and of the window's two numbers, and then of each day held.
use Rattle.std.proofs.Common.{◌≡◌, true, false, not, ◌&&◌}
use mathlib.Core.Bool.{not-not}
use mathlib.Core.Path.{refl, sym, ap₂, ◌∙◌}
use Rattle.rules.specs.Verdict.{fits}
use Rattle.window.specs.Window.{is_refused}
use Rattle.window.specs.Parts.{is_placed}
use Rattle.window.proofs.Taken.{days_fit, refused_is}
use Rattle.window.proofs.Window.checked_sums.Goals as goal

pub returns-then-not-fits-is_placed : goal.returns-then-not-fits-is_placed
returns-then-not-fits-is_placed c =
    let w = c.args.self.now in
    let t = c.args.t in
    let e : (fits 1 t && is_placed w) ≡ false = ap₂ ◌&&◌ (sym c.fits.ensures) (sym c.is_placed.ensures) ∙ c.if-not-fits-is_placed.true in
    rw (refused_is w t, e) refl

pub returns : goal.returns
returns c =
    let w = c.args.self.now in
    let t = c.args.t in
    let e : (fits 1 t && is_placed w) ≡ true = ap₂ ◌&&◌ (sym c.fits.ensures) (sym c.is_placed.ensures) ∙ c.if-not-fits-is_placed.false in
    let taken : not (is_refused w t) ≡ days_fit w t = rw (refused_is w t, e) (not-not (days_fit w t)) in
    rw (c.held_sums.ensures, taken) refl
