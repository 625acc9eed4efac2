-- What a call comes to (document 01, "Numbers of refusal", and document 02).
-- Assumes nothing.
use Rattle.std.specs.Prelude.{ℕ, Bool, cond, List, ◌++◌, Result, Ok, Err, eqb, codes}
use Rattle.std.specs.Fmt.{decimal}
use Rattle.wire.specs.Choose.{choose}
use Rattle.refusals.specs.declared.Cause.{Cause}
use Rattle.refusals.specs.declared.Cause.TheVariants as cause
use Rattle.refusals.specs.declared.Refusal.{Refusal}

-- Numbers of refusal: the number and the offset of a refusal, or what the call answers
pub data Outcome (A : Type 0) : Type 0 where
  refused : (number offset : ℕ) → Outcome A
  good : A → Outcome A

-- a refusal stands, and what is good goes on to f
abbrev pub follow : {A B : Type 0} → Outcome A → (A → Outcome B) → Outcome B
follow (refused number offset) f = refused number offset
follow (good a) f = f a

-- what f makes of what is good, and b where there was a refusal
abbrev pub given : {A B : Type 0} → Outcome A → B → (A → B) → B
given (refused number offset) b f = b
given (good a) b f = f a

-- Numbers of refusal, from 8 on (2.9: but for 37 and 38): causes are asked top to bottom; the first that holds refuses, with the offset 0, and where none does there comes what
-- comes next
abbrev pub asked : {A : Type 0} → (causes : List (Bool × ℕ)) → Outcome A → Outcome A
asked causes next = let n = choose causes 0 in cond (eqb n 0) next (refused n 0)

-- Numbers of refusal: each cause's number
abbrev pub number_of : Cause → ℕ
number_of cause.Cut = 1
number_of cause.NotDue = 2
number_of cause.WrongLength = 3
number_of cause.Missing = 4
number_of cause.BadField = 5
number_of cause.Repeated = 6
number_of cause.TooMany = 7
number_of cause.ShortBook = 8
number_of cause.ShortRecord = 11
number_of cause.WrongKind = 12
number_of cause.WrongSize = 13
number_of cause.UnlistedFirm = 14
number_of cause.UnlistedGroup = 15
number_of cause.NoSuchDay = 16
number_of cause.UnlistedContract = 17
number_of cause.AboveLimit = 18
number_of cause.NoSuchFirm = 21
number_of cause.Excess = 22
number_of cause.ShortOutput = 23
-- 2.3: a correction's fields; its edition, or activity in a corrected cell
number_of cause.Unsound = 31
number_of cause.Superseded = 32
-- 2.5: a record's minimum-quantity orders
number_of cause.ImpossibleMinimum = 33
-- 2.6: a statement's grants
number_of cause.MalformedGrant = 34
number_of cause.NoSuchCell = 35
-- 2.8: a window's numbers, and its new day's
number_of cause.BadWindow = 36
-- 2.9: a schedule's constants
number_of cause.BadConstant = 37
number_of cause.ConstantsOutOfOrder = 38

-- Numbers of refusal, from 8 on: a cause has the offset 0 (2.9: but for 37 and 38, which are asked of a schedule's record)
abbrev pub at_front : Cause → Refusal
at_front c = record { cause = c; offset = 0 }

-- what an answer means: the number and the offset of a refusal, or what the call answers
abbrev pub outcome : {A : Type 0} → Result A Refusal → Outcome A
outcome (Ok a) = good a
outcome (Err r) = refused (number_of r.cause) r.offset

-- what an answer means that a cause alone may refuse
abbrev pub outcome_at_front : {A : Type 0} → Result A Cause → Outcome A
outcome_at_front (Ok a) = good a
outcome_at_front (Err c) = refused (number_of c) 0

-- what an answer means that asks causes and no more: the number of the one that refuses, 0 where none does
abbrev pub cause_number : Result (Unit {0}) Cause → ℕ
cause_number (Ok a) = 0
cause_number (Err c) = number_of c

-- a refusal as it is printed
abbrev pub refusal_text : Refusal → List ℕ
refusal_text r = codes "refused " ++ (decimal (number_of r.cause) ++ (codes " at " ++ decimal r.offset))
