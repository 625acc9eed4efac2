-- The search for a bad contract has found none so far, and `last` is the contract before: so a return stops at the first bad one,
-- and a walk to the end found none.
use Rattle.std.proofs.Common.{List, ℕ, ◌+◌, ◌≡◌, refl, sym, ◌∙◌, add-one, Bool}
use borrow.Author.Tests.{le-ltb}
use Rattle.wire.proofs.Choose.{seek-next, seek_end, some_at}
use Rattle.calendar.specs.Calendar.{is_month}
use Rattle.std.specs.Prelude.{◌||◌, not, leb}
use Rattle.contracts.specs.Listing.{contract, before, contract_bad, contracts_ok}
use Rattle.contracts.proofs.listing.contracts_ok.Goals as goal

before_next : (B : List ℕ) (i : ℕ) → before B (i + 1) ≡ contract B i
unfolding before
before_next B i = rw (add-one i)

-- the test of a contract is the definition's
asked : (B : List ℕ) (i m last : ℕ) (r : Bool) → m ≡ contract B i → last ≡ before B i → r ≡ (not (is_month m) || leb m last) → contract_bad B i ≡ r
unfolding contract_bad
asked B i m last r e f g = rw (g, e, f)

pub loop-i-init : goal.loop-i-init
unfolding before
loop-i-init c = record { before_here = refl; seeks = refl }

pub returns-then-is_bad : goal.returns-then-is_bad
unfolding contracts_ok
returns-then-is_bad c =
    let l = c.loop-i in
    let bad = asked _ _ _ _ _ c.contract_at-m.ensures l.invariant.before_here c.is_bad.ensures ∙ c.if-is_bad.true in
    rw (← c.listed_in-i-end.ensures, some_at _ _ _ c.loop-i-test.true bad)

pub loop-i-preserved : goal.loop-i-preserved
loop-i-preserved c =
    let l = c.loop-i in
    let fine = asked _ _ _ _ _ c.contract_at-m.ensures l.invariant.before_here c.is_bad.ensures ∙ c.if-is_bad.false in
    record {
      before_here = c.contract_at-m.ensures ∙ sym (before_next _ _);
      seeks = l.invariant.seeks ∙ seek-next _ _ _ c.loop-i-test.true fine;
    }

pub returns : goal.returns
unfolding contracts_ok
returns c =
    let l = c.loop-i in
    let n = c.loop-i-test.false in
    rw (← c.listed_in-i-end.ensures, l.invariant.seeks, seek_end _ _ _ n, le-ltb _ _ n)
