-- The search for a bad contract has found none so far, and `last` is the contract before: so a return stops at the first bad one,
-- and a walk to the end found none.
use Rattle.std.proofs.Common.{◌≡◌}
use Rattle.wire.specs.Choose.{seek}
use Rattle.contracts.specs.Listing.{before, contract_bad}
use Rattle.contracts.proofs.listing.contracts_ok.Given as goal

abbrev pub invariant-loop-i : goal.invariant-loop-i
invariant-loop-i l =
    record {
      before_here : l.last ≡ before l.body l.i;
      seeks : seek 0 l.i-end (contract_bad l.body) ≡ seek l.i l.i-end (contract_bad l.body);
    }
