-- What the walks over a month's places go by.
use Rattle.wire.proofs.Counts.{last-none, last_more}

-- the last place so far
pub ruleset seeking = (last-none, last_more)
