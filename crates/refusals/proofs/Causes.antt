-- Every cause has a number, and 0 is none of them.
use Rattle.std.proofs.Common.{◌<◌, ◌≡◌, lit<, arith}
use Rattle.refusals.specs.Outcome.{number_of}
use Rattle.refusals.specs.declared.Cause.{Cause}
use Rattle.refusals.specs.declared.Cause.TheVariants as cause

above_0 : (c : Cause) → 0 < number_of c
above_0 cause.Cut = lit< tt
above_0 cause.NotDue = lit< tt
above_0 cause.WrongLength = lit< tt
above_0 cause.Missing = lit< tt
above_0 cause.BadField = lit< tt
above_0 cause.Repeated = lit< tt
above_0 cause.TooMany = lit< tt
above_0 cause.ShortBook = lit< tt
above_0 cause.ShortRecord = lit< tt
above_0 cause.WrongKind = lit< tt
above_0 cause.WrongSize = lit< tt
above_0 cause.UnlistedFirm = lit< tt
above_0 cause.UnlistedGroup = lit< tt
above_0 cause.NoSuchDay = lit< tt
above_0 cause.UnlistedContract = lit< tt
above_0 cause.AboveLimit = lit< tt
above_0 cause.NoSuchFirm = lit< tt
above_0 cause.Excess = lit< tt
above_0 cause.ShortOutput = lit< tt
above_0 cause.Unsound = lit< tt
above_0 cause.Superseded = lit< tt
above_0 cause.ImpossibleMinimum = lit< tt
above_0 cause.MalformedGrant = lit< tt
above_0 cause.NoSuchCell = lit< tt
above_0 cause.BadWindow = lit< tt
above_0 cause.BadConstant = lit< tt
above_0 cause.ConstantsOutOfOrder = lit< tt

pub not_0 : (c : Cause) → number_of c ≡ 0 → ⊥
not_0 c e = omega (arith, above_0 c)
