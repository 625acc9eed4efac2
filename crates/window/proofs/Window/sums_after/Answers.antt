-- The new day comes behind those held; where these are twenty the oldest is left out, which is the first of them.
use Rattle.std.proofs.Common.{arith}
use mathlib.Core.Path.{sym, ◌∙◌}
use Rattle.window.specs.Laws.{HasPlaces}
use Rattle.window.proofs.Leaving.{held_within, sums_behind, holds_oldest, rest_within, sums_rest}
use Rattle.window.proofs.Window.sums_after.Goals as goal

pub without_day-requires : goal.without_day-requires
without_day-requires c =
    rw (c.requires.before, c.day.ensures) (holds_oldest c.args.self.now c.args.t c.requires.taken (sym c.is_full.ensures ∙ c.if-is_full.true))

pub with_day-requires-clause-within : goal.with_day-requires-clause-within
with_day-requires-clause-within c =
    rw (c.without_day.ensures, c.requires.before, c.day.ensures) (rest_within c.args.self.now c.args.t c.requires.taken (sym c.is_full.ensures ∙ c.if-is_full.true))

pub returns-then-is_full : goal.returns-then-is_full
returns-then-is_full c =
    let w = c.args.self.now in
    let places : HasPlaces w = record { raw = omega arith; score = omega arith; lots = omega arith } in
    rw (c.with_day.ensures, c.without_day.ensures, c.requires.before, c.day.ensures)
    (sym (sums_rest w c.args.t c.requires.taken (sym c.is_full.ensures ∙ c.if-is_full.true) places))

pub with_day-requires-2-clause-within : goal.with_day-requires-2-clause-within
with_day-requires-2-clause-within c = rw c.requires.before (held_within c.args.self.now c.args.t c.requires.taken)

pub returns : goal.returns
returns c =
    let w = c.args.self.now in
    let places : HasPlaces w = record { raw = omega arith; score = omega arith; lots = omega arith } in
    rw (c.with_day-2.ensures, c.requires.before) (sym (sums_behind w c.args.t c.requires.taken places (sym c.is_full.ensures ∙ c.if-is_full.false)))
