-- Computed examples of grants (document 02, 2.6): which lists 34 and 35 refuse, and which places are named.
-- Assumes nothing.
use Rattle.std.specs.Prelude.{ℕ, true, false, List, [], ◌∷◌, ◌++◌, ◌≡◌, refl, take}
use Rattle.wire.specs.Bytes.{u16_at, u32_at, u16_bytes}
use Rattle.wire.specs.Choose.{choose, all, seek_in}
use Rattle.wire.specs.Lists.{joined}
use Rattle.calendar.specs.Calendar.{days_in}
use Rattle.records.specs.Bodies.{firm_kind, firm_size}
use Rattle.records.specs.Fields.{head_fields, head_ok, group_fields, group_in_range, is_letter, firm_fields, firm_ok, has_code}
use Rattle.refusals.specs.Outcome.{given}
use Rattle.contracts.specs.Listing.{contracts_ok, contract_bad, before, contract, listed}
use Rattle.lookup.specs.Lookup.{group_start, group_is, firm_is, group_listed, firm_listed}
use Rattle.lookup.specs.declared.Layout.{Layout}
use Rattle.schedule.specs.Check.{nothing, check_of, scan, ending, with_record, cause, is_repeated, fields_ok, constants_in_order, constants_in_range, is_full, length_ok, is_due, kind_of}
use Rattle.schedule.specs.Samples.{head, group, ABC, firm}
use Rattle.grants.specs.Grants.{grant_kind, grant_size, grants_causes, named}

-- a grant to the firm with the code C, of a day and a group
abbrev pub grant : (C : List ℕ) → (day first second : ℕ) → List ℕ
grant C day first second = u16_bytes grant_size ++ u16_bytes grant_kind ++ C ++ (day ∷ first ∷ second ∷ [])

-- the code of the firm XYZ
abbrev XYZ : List ℕ
XYZ = 88 ∷ 89 ∷ 90 ∷ []

-- October 2019; ES, and CL; ABC, and XYZ
abbrev S : List ℕ
S = head 0 ++ group 69 83 1 ++ group 67 76 2 ++ firm ++ u16_bytes firm_size ++ u16_bytes firm_kind ++ XYZ

abbrev l : Layout
l = given (check_of S) nothing (λ l. l)

-- the number that refuses a list of grants, 0 where none does
abbrev refusing : (G : List ℕ) → ℕ
refusing G = choose (grants_causes S l G) 0

-- grants of ABC in CL on day 3, of XYZ in ES on day 4, and of ABC again
abbrev three : List ℕ
three = grant ABC 3 67 76 ++ grant XYZ 4 69 83 ++ grant ABC 3 67 76

-- an unlisted firm, and a grant of kind 8
abbrev unlisted : List ℕ
unlisted = grant (90 ∷ 90 ∷ 90 ∷ []) 3 67 76

abbrev wrong_kind : List ℕ
wrong_kind = u16_bytes grant_size ++ u16_bytes 8 ++ ABC ++ (3 ∷ 67 ∷ 76 ∷ [])

pub record Example : Type 0 where
  pub none : refusing [] ≡ 0
  pub good : refusing three ≡ 0
  -- 34: cut at nine bytes; a byte left behind good ones; length 11; kind 8
  pub cut : refusing (take 9 (grant ABC 3 67 76)) ≡ 34
  pub tail : refusing (three ++ 10 ∷ []) ≡ 34
  pub length : refusing (u16_bytes 11 ++ u16_bytes grant_kind ++ ABC ++ (3 ∷ 67 ∷ 76 ∷ [])) ≡ 34
  pub kind : refusing wrong_kind ≡ 34
  -- 35: firm and group unlisted; day 0, and past the month; also of a grant to another firm
  pub firm : refusing unlisted ≡ 35
  pub group : refusing (grant ABC 3 90 67) ≡ 35
  pub day_0 : refusing (grant ABC 0 67 76) ≡ 35
  pub day_32 : refusing (grant XYZ 32 67 76) ≡ 35
  -- 34 before 35 in one grant; else grant by grant
  pub both : refusing (u16_bytes grant_size ++ u16_bytes 8 ++ (90 ∷ 90 ∷ 90 ∷ []) ++ (3 ∷ 67 ∷ 76 ∷ [])) ≡ 34
  pub earlier_35 : refusing (three ++ unlisted ++ wrong_kind) ≡ 35
  pub earlier_34 : refusing (three ++ wrong_kind ++ unlisted) ≡ 34
  -- a grant of another firm names no place of this one; day 3 in CL is place 2 × 32 + 1, day 4 in ES place 3 × 32
  pub own : named S l ABC three 65 ≡ true
  pub others : named S l ABC three 96 ≡ false
  pub theirs : named S l XYZ three 96 ≡ true
  pub other_group : named S l ABC three 64 ≡ false
  pub other_day : named S l ABC three 97 ≡ false

pub example : Example
unfolding check_of scan ending with_record cause is_repeated fields_ok constants_in_order constants_in_range is_full length_ok is_due kind_of
    firm_listed group_listed firm_is group_is group_start firm_ok firm_fields has_code group_in_range group_fields contracts_ok contract_bad before
    contract listed head_ok head_fields is_letter days_in joined seek_in all choose u32_at u16_at
example =
    record {
      none = refl;
      good = refl;
      cut = refl;
      tail = refl;
      length = refl;
      kind = refl;
      firm = refl;
      group = refl;
      day_0 = refl;
      day_32 = refl;
      both = refl;
      earlier_35 = refl;
      earlier_34 = refl;
      own = refl;
      others = refl;
      theirs = refl;
      other_group = refl;
      other_day = refl;
    }
