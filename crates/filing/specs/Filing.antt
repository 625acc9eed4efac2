-- How a schedule takes a posted record (document 01, "The book and its calls", post, and document 02, 2.3 and 2.5). S is the schedule, l what it
-- holds, R the record.
-- Assumes nothing.
use Rattle.std.specs.Prelude.{ℕ, Bool, cond, List, Result, Ok, Err, ◌≡◌, eqb}
use Rattle.wire.specs.Choose.{choose}
use Rattle.refusals.specs.Outcome.{number_of}
use Rattle.refusals.specs.declared.Cause.{Cause}
use Rattle.contracts.specs.Counted.{Taken, counted, status_of}
use Rattle.lookup.specs.Lookup.{group_start}
use Rattle.lookup.specs.declared.GroupPlace.{GroupPlace}
use Rattle.lookup.specs.declared.Layout.{Layout}
use Rattle.activity.specs.Activity.{is_activity, contract_of}
use Rattle.filing.specs.Causes.{firm_place_of, group_place_of, record_causes, is_counted_record}
use Rattle.filing.specs.declared.Filed.{Filed}
use Rattle.filing.specs.declared.Filed.TheVariants as filed

-- what a record comes to before its cell is asked: the number of a refusal, outside, or counted, for a firm and in a group
pub data Filing : Type 0 where
  refused_by : (number : ℕ) → Filing
  is_outside : Filing
  counted_in : (firm group : ℕ) → Filing

-- how a group of the body G takes the record's contract; a correction has none, and is counted by its day
abbrev pub contract_taken : (G R : List ℕ) → Taken
contract_taken G R = cond (is_activity R) (status_of G (contract_of R)) counted

-- what the answer means
abbrev pub filed_meaning : Result Filed Cause → Filing
filed_meaning (Err c) = refused_by (number_of c)
filed_meaning (Ok filed.Outside) = is_outside
filed_meaning (Ok (filed.At firm group)) = counted_in firm group

module _ (S : List ℕ) (l : Layout) (R : List ℕ) where
  -- Post: where none of these causes refuses the record it is outside, or counted
  unfoldable pub filing_by : (causes : List (Bool × ℕ)) → Filing
  filing_by causes =
      let n = choose causes 0 in
      cond (eqb n 0) (cond (is_counted_record S l R) (counted_in (firm_place_of S l R) (group_place_of S l R)) is_outside) (refused_by n)

  -- Numbers of refusal, 11 to 17 with 31 after 13 and 33 after 17
  abbrev pub filing_of : Filing
  filing_of = filing_by (record_causes S l R)

  -- the record's firm and group were found: their places, and where the group's record stands
  pub record FoundIs (firm : ℕ) (group : GroupPlace) : Type 0 where
    pub firm_is : firm ≡ firm_place_of S l R
    pub group_is : group.index ≡ group_place_of S l R
    pub offset_is : group.offset ≡ group_start S l.first (group_place_of S l R)
