-- What 36 refuses, and a day without messages, leave the window; any other day is stored.
use mathlib.Core.Path.{sym, ap, ◌∙◌}
use Rattle.refusals.specs.Outcome.{good}
use Rattle.window.proofs.Taken.{taken, none_held, some_held, answer_refused, after_refused, after_idle, answer_good, after_stored}
use Rattle.window.proofs.push.Goals as goal

pub returns-in_default-clause-answer : goal.returns-in_default-clause-answer
returns-in_default-clause-answer c =
    sym (answer_refused c.args.window c.args.day (none_held c.args.window c.args.day (sym c.checked_sums.ensures ∙ c.in_default.is)))

pub returns-in_default-clause-window : goal.returns-in_default-clause-window
returns-in_default-clause-window c =
    sym (after_refused c.args.window c.args.day (none_held c.args.window c.args.day (sym c.checked_sums.ensures ∙ c.in_default.is)))

pub returns-then-not-has_messages-clause-answer : goal.returns-then-not-has_messages-clause-answer
returns-then-not-has_messages-clause-answer c =
    let w = c.args.window in
    let t = c.args.day in
    let s = some_held w t c.in-Some.before (sym c.checked_sums.ensures ∙ c.in-Some.is) in
    rw (answer_good w t s.0, after_idle w t (sym c.has_messages.ensures ∙ c.if-not-has_messages.true)) (ap good s.1)

pub returns-then-not-has_messages-clause-window : goal.returns-then-not-has_messages-clause-window
returns-then-not-has_messages-clause-window c = sym (after_idle c.args.window c.args.day (sym c.has_messages.ensures ∙ c.if-not-has_messages.true))

pub sums_after-after-requires-clause-before : goal.sums_after-after-requires-clause-before
sums_after-after-requires-clause-before c = (some_held c.args.window c.args.day c.in-Some.before (sym c.checked_sums.ensures ∙ c.in-Some.is)).1

pub sums_after-after-requires-clause-taken : goal.sums_after-after-requires-clause-taken
sums_after-after-requires-clause-taken c =
    taken c.args.window c.args.day (some_held c.args.window c.args.day c.in-Some.before (sym c.checked_sums.ensures ∙ c.in-Some.is)).0

pub stored-requires : goal.stored-requires
stored-requires c =
    (taken c.args.window c.args.day (some_held c.args.window c.args.day c.in-Some.before (sym c.checked_sums.ensures ∙ c.in-Some.is)).0).placed

pub returns-clause-answer : goal.returns-clause-answer
returns-clause-answer c =
    let w = c.args.window in
    let t = c.args.day in
    let s = some_held w t c.in-Some.before (sym c.checked_sums.ensures ∙ c.in-Some.is) in
    rw (answer_good w t s.0, after_stored w t s.0 (sym c.has_messages.ensures ∙ c.if-not-has_messages.false)) (ap good c.sums_after-after.ensures)

pub returns-clause-window : goal.returns-clause-window
returns-clause-window c =
    let w = c.args.window in
    let t = c.args.day in
    let s = some_held w t c.in-Some.before (sym c.checked_sums.ensures ∙ c.in-Some.is) in
    rw (after_stored w t s.0 (sym c.has_messages.ensures ∙ c.if-not-has_messages.false)) c.stored.ensures
