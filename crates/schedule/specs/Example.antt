-- Computed examples of schedules with a record of constants (document 02, 2.9): where it is due, what refuses it and in which order, and where the groups start;
-- and that it puts any lawful set in force.
-- Assumes nothing.
use Rattle.std.specs.Prelude.{ℕ, ◌+◌, true, List, ◌++◌, ◌≡◌, refl, take, drop}
use Rattle.wire.specs.Bytes.{u16_at, u32_at, u16_bytes, u32_bytes}
use Rattle.wire.specs.Choose.{choose, all, seek_in}
use Rattle.calendar.specs.Calendar.{days_in}
use Rattle.rules.specs.Verdict.{version96}
use Rattle.rules.specs.Constants.{in_range, in_order, is_lawful}
use Rattle.rules.specs.declared.Rules.{Rules}
use Rattle.records.specs.Bodies.{head_kind, constants_kind, head_size}
use Rattle.records.specs.Fields.{head_fields, head_ok, constants_fields, group_fields, group_in_range, is_letter, firm_fields, firm_ok, has_code}
use Rattle.contracts.specs.Listing.{contracts_ok, contract_bad, before, contract, listed}
use Rattle.refusals.specs.Outcome.{Outcome, refused, good}
use Rattle.lookup.specs.Lookup.{group_start, group_is, firm_is, group_listed, firm_listed}
use Rattle.lookup.specs.InForce.{rules_of}
use Rattle.lookup.specs.declared.Layout.{Layout}
use Rattle.schedule.specs.Check.{check_of, scan, ending, with_record, cause, is_repeated, fields_ok, constants_in_order, constants_in_range, is_full, length_ok, is_due, kind_of}
use Rattle.schedule.specs.Samples.{head, constants, group, firm}

-- a set of its own
abbrev own : Rules
own = record { edge1 = 0; edge2 = 258; edge3 = 70000; factor1 = 9; factor2 = 8; factor3 = 8; severe = 5; waivers = 1; dollars = 770 }

-- records, then a group and a firm
abbrev with_group : List ℕ → List ℕ
with_group records = records ++ group 69 83 1 ++ firm

-- a head and this set behind it
abbrev behind_head : Rules → List ℕ
behind_head P = with_group (head 0 ++ constants P)

-- what such a schedule comes to, whose groups start at `first`
abbrev held : (first : ℕ) → Outcome Layout
held first = good (record { month = 24237; closed = 0; first = first; groups = 1; start = first + 18; firms = 1 })

-- a set of 28 bytes whose length says otherwise, and what follows the length in it
abbrev of_length : (len : ℕ) → List ℕ
of_length len = with_group (head 0 ++ u16_bytes len ++ u16_bytes constants_kind ++ take 26 (constants own))

-- a head of a month that is none
abbrev bad_head : List ℕ
bad_head = u16_bytes head_size ++ u16_bytes head_kind ++ u16_bytes 23999 ++ u32_bytes 0

-- behind a head, the record of a lawful set puts that set in force, whatever follows. Proved in proofs/Given.antt
abbrev pub EverySet : Type 0
EverySet = (P : Rules) → is_lawful P ≡ true → (closed : ℕ) (rest : List ℕ) → rules_of (head closed ++ constants P ++ rest) ≡ P

pub record Example : Type 0 where
  -- the groups start behind the constants, which are in force
  pub given : check_of (behind_head own) ≡ held 38
  pub in_force : rules_of (behind_head own) ≡ own
  pub written_out : check_of (behind_head version96) ≡ held 38
  pub of_96 : rules_of (behind_head version96) ≡ version96
  pub absent : check_of (with_group (head 0)) ≡ held 10
  pub then_96 : rules_of (with_group (head 0)) ≡ version96
  -- 2: before the head; a second one; after a group; after a firm
  pub first_of_all : check_of (with_group (constants own ++ head 0)) ≡ refused 2 0
  pub second_one : check_of (with_group (head 0 ++ constants own ++ constants own)) ≡ refused 2 38
  pub after_group : check_of (with_group (head 0 ++ group 90 67 1 ++ constants own)) ≡ refused 2 28
  pub after_set_and_group : check_of (with_group (head 0 ++ constants own ++ group 90 67 1 ++ constants own)) ≡ refused 2 56
  pub after_firm : check_of (with_group (head 0) ++ constants own) ≡ refused 2 35
  -- no other record is due in place of a group
  pub firm_behind : check_of (head 0 ++ constants own ++ firm) ≡ refused 2 38
  pub head_behind : check_of (head 0 ++ constants own ++ head 0) ≡ refused 2 38
  -- 3: another length than 28; 1: cut
  pub short : check_of (of_length 27) ≡ refused 3 10
  pub long : check_of (of_length 29) ≡ refused 3 10
  pub cut : check_of (head 0 ++ take 27 (constants own)) ≡ refused 1 10
  pub cut_at_3 : check_of (head 0 ++ take 3 (constants own)) ≡ refused 1 10
  -- 2 before 3, 3 before 1 and 37, 1 before 37; and record by record
  pub second_long : check_of (head 0 ++ constants own ++ u16_bytes 29 ++ u16_bytes constants_kind) ≡ refused 2 38
  pub cut_and_long : check_of (head 0 ++ u16_bytes 29 ++ u16_bytes constants_kind) ≡ refused 3 10
  pub long_and_past : check_of (with_group (head 0 ++ u16_bytes 29 ++ drop 2 (constants (record own { factor1 = 11 })))) ≡ refused 3 10
  pub bad_head_first : check_of (with_group (bad_head ++ constants (record own { factor1 = 11 }))) ≡ refused 5 0
  pub cut_and_past : check_of (head 0 ++ take 20 (constants (record own { factor1 = 11 }))) ≡ refused 1 10
  -- 37 before 38, and 38 where every constant is in its range
  pub past_range : check_of (behind_head (record own { factor1 = 11 })) ≡ refused 37 10
  pub wide_factor : check_of (behind_head (record own { factor3 = 256 })) ≡ refused 37 10
  pub wide_edge : check_of (behind_head (record own { edge3 = 1000001 })) ≡ refused 37 10
  pub both : check_of (behind_head (record own { edge2 = 0; dollars = 0 })) ≡ refused 37 10
  pub equal_edges : check_of (behind_head (record own { edge2 = 0 })) ≡ refused 38 10
  pub rising_factor : check_of (behind_head (record own { factor3 = 9 })) ≡ refused 38 10
  -- 4: a schedule that ends behind its constants, or behind a group
  pub then_nothing : check_of (head 0 ++ constants own) ≡ refused 4 38
  pub no_firm : check_of (head 0 ++ constants own ++ group 69 83 1) ≡ refused 4 56

pub example : Example
unfolding check_of scan ending with_record cause is_repeated fields_ok constants_in_order constants_in_range is_full length_ok is_due kind_of
    firm_listed group_listed firm_is group_is group_start firm_ok firm_fields has_code group_in_range group_fields contracts_ok contract_bad before
    contract listed head_ok head_fields rules_of constants_fields in_range in_order is_letter days_in seek_in all choose u32_at u16_at
example =
    record {
      given = refl;
      in_force = refl;
      written_out = refl;
      of_96 = refl;
      absent = refl;
      then_96 = refl;
      first_of_all = refl;
      second_one = refl;
      after_group = refl;
      after_set_and_group = refl;
      after_firm = refl;
      firm_behind = refl;
      head_behind = refl;
      short = refl;
      long = refl;
      cut = refl;
      cut_at_3 = refl;
      second_long = refl;
      cut_and_long = refl;
      long_and_past = refl;
      bad_head_first = refl;
      cut_and_past = refl;
      past_range = refl;
      wide_factor = refl;
      wide_edge = refl;
      both = refl;
      equal_edges = refl;
      rising_factor = refl;
      then_nothing = refl;
      no_firm = refl;
    }
