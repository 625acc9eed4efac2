-- What the month's loops go by.
use Rattle.wire.proofs.Lists.{joined-none, table_write, table_done}
use Rattle.wire.proofs.Sums.{sum-none, sum_more, count_most}
use Rattle.lookup.proofs.Laws.{group-first, group_next}

-- an array that is filled from the front, also by a walk over the groups
pub ruleset filling = (joined-none, table_write, table_done)

pub ruleset walking = (filling, group-first, group_next)

-- places that are counted
pub ruleset counting = (sum-none, sum_more, count_most)
