-- The three stores and the two fields are the definition's, by whether twenty are held.
use Rattle.std.proofs.Common.{◌≡◌, true, false}
use mathlib.Core.Path.{refl, sym, ◌∙◌}
use Rattle.window.specs.Window.{is_full, stored}
use Rattle.window.proofs.Window.stored.Goals as goal

pub returns-then-is_full : goal.returns-then-is_full
unfolding stored
returns-then-is_full c =
    let e : is_full c.args.self ≡ true = sym c.is_full.ensures ∙ c.if-is_full.true in
    rw (c.place_of-place.ensures, c.place_of.ensures, e) refl

pub returns-else-is_full : goal.returns-else-is_full
unfolding stored
returns-else-is_full c =
    let e : is_full c.args.self ≡ false = sym c.is_full.ensures ∙ c.if-is_full.false in
    rw (c.place_of-place.ensures, e) refl
