-- A code of another length than two is no group's.
use Rattle.std.proofs.Common.{sym, arith}
use Rattle.reason.proofs.Groups.{unlisted_length}
use Rattle.reason.proofs.find_group.Goals as goal

pub returns-in_default : goal.returns-in_default
returns-in_default c = sym (unlisted_length _ _ _ (omega (arith, c.in_default.len_below)))

pub returns-in_default-2 : goal.returns-in_default-2
returns-in_default-2 c = sym (unlisted_length _ _ _ (omega (arith, c.in_default.len_at_least)))
