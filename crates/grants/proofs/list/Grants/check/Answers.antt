-- No grant before the next one refuses, so that the first that does decides.
use Rattle.std.proofs.Common.{◌≡◌, ◌<◌, ℕ, List, Bool, sym, refl}
use Rattle.std.proofs.lemmas.Result.{err_from_is_err_and}
use Rattle.wire.specs.Choose.{choose}
use Rattle.wire.specs.Lists.{joined}
use Rattle.wire.proofs.Tables.{none_more, decides}
use Rattle.refusals.specs.Outcome.{number_of}
use Rattle.refusals.proofs.Causes.{not_0}
use Rattle.grants.specs.Grants.{grants_in, grant_at, grant_causes}
use Rattle.grants.specs.declared.list.Grants.{Grants}
use Rattle.grants.proofs.list.Grants.check.Goals as goal

-- the causes of each grant
abbrev causes : Grants → (k : ℕ) → List (Bool × ℕ)
causes g k = grant_causes g.schedule.bytes.now g.schedule.layout (grant_at g.bytes.now k)

pub loop-k-init : goal.loop-k-init
unfolding choose joined
loop-k-init c = refl

pub returns-in_err-check_grant : goal.returns-in_err-check_grant
returns-in_err-check_grant c =
    let g = c.args.self.now in
    let k = c.loop-k.k in
    let p = err_from_is_err_and c.from_residual.result c.from_residual.ensures.1 in
    let inside : k < grants_in g.bytes.now = rw c.count-k-end.ensures at c.loop-k-test.true in
    let here : choose (causes g k) 0 ≡ number_of c.in_err-check_grant.field-0.0 = sym (rw c.at.ensures at c.in_err-check_grant.ensures) in
    rw (p.1, p.2) (sym (decides (causes g) (λ i. refl) k (grants_in g.bytes.now) inside c.loop-k.invariant here (not_0 _)))

pub loop-k-preserved : goal.loop-k-preserved
loop-k-preserved c =
    let here = sym (rw c.at.ensures at c.in_ok-check_grant.ensures) in
    none_more (causes c.args.self.now) (λ i. refl) c.loop-k.k c.loop-k.invariant here
