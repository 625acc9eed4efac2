-- A computed example of posts: a schedule as in document 01's whole run (October 2019, ES, firm ABC), but with day 2 not in effect, and
-- records whose counts are all different, so that a count read in the place of another, or another factor, would show; then (document 02, 2.2) a
-- FAK order with a minimum quantity, and a score that minimum-quantity orders bring to one below the limit; then (document 02, 2.3) corrections among
-- activity; then (document 02, 2.5) impossible minimum quantities.
-- Assumes nothing.
use Rattle.std.specs.Prelude.{ℕ, ◌+◌, ◌*◌, List, [], ◌∷◌, ◌++◌, ◌≡◌, refl, drop}
use Rattle.wire.specs.Bytes.{u16_at, u16_bytes, u32_at}
use Rattle.wire.specs.Choose.{choose, all, seek_in}
use Rattle.wire.specs.Lists.{joined, keep, table, put, over}
use Rattle.wire.specs.Sums.{sum}
use Rattle.calendar.specs.Calendar.{days_in}
use Rattle.contracts.specs.Counted.{contract_listed, contract_counted, in_front, is_after, is_late, is_counted, contract_is}
use Rattle.records.specs.Fields.{head_fields, head_ok, group_fields, group_in_range, is_letter, firm_fields, firm_ok, has_code}
use Rattle.contracts.specs.Listing.{contracts_ok, contract_bad, before, contract, listed}
use Rattle.lookup.specs.Lookup.{group_start, group_is, firm_is, group_listed, firm_listed}
use Rattle.refusals.specs.Outcome.{Outcome, refused, good}
use Rattle.schedule.specs.Check.{check_of, scan, ending, with_record, cause, is_repeated, fields_ok, constants_in_order, constants_in_range, is_full, length_ok, is_due, kind_of}
use Rattle.activity.specs.Activity.{totals_of}
use Rattle.activity.specs.Correction.{correction_fields}
use Rattle.cell.specs.Cell.{none}
use Rattle.book.specs.Book.{per_firm_group, index, with_cell, check_book, open_book}
use Rattle.book.specs.Post.{taking, post_answer, post_book}
use Rattle.book.specs.declared.posting.Effect.{Effect}
use Rattle.book.specs.declared.posting.Effect.TheVariants as effect
use Rattle.accepted.specs.Accepted.{accepted_cells, accepted, own, posted}
use Rattle.schedule.specs.Samples.{head, group, ABC, firm}
use Rattle.accepted.specs.Samples.{activity, correction_with, correction}

-- October 2019 with day 2 not in effect, ES and ABC
abbrev schedule : List ℕ
schedule = head 2 ++ group 69 83 1 ++ firm

-- the same with a front mask, at 22, that leaves out December, so that its contract is listed and not counted
abbrev uncounted : List ℕ
uncounted = put 22 (u16_bytes 2047) schedule

-- a record of ABC in ES, each count ten times the one before: 1 modification, then cancellations, FAK/FOK orders, mass action requests, mass action
-- reports, minimum-quantity orders, new orders, lots
abbrev counts : (day contract : ℕ) → List ℕ
counts day contract = activity 69 83 day contract 1000000 1 10 100 1000 10000 100000 10000000

-- one with new orders, modifications, FAK/FOK orders and minimum-quantity orders alone
abbrev orders : (day new modified fak_fok minimum : ℕ) → List ℕ
orders day new modified fak_fok minimum = activity 69 83 day 24239 new modified 0 fak_fok 0 0 minimum 0

-- day 1 twice, day 2 between, then day 32, an unlisted contract, and a record of two bytes; on day 3 a FAK order with a minimum quantity; on day 4
-- a score one below the limit, one minimum-quantity order more, and a modification
abbrev posts : List (List ℕ)
posts =
    counts 1 24239 ∷ counts 2 24239 ∷ counts 1 24239 ∷ counts 32 24239 ∷ counts 1 24240 ∷ (44 ∷ 0 ∷ [])
    ∷ orders 3 0 0 1 1
    ∷ orders 4 3333333333 0 0 3333333333 ∷ orders 4 1 0 0 1 ∷ orders 4 0 1 0 0
    ∷ []

-- a correction of ABC in ES, of edition e, to raw 7 × e, score 8 × e and lots 9 × e
abbrev amend : (day e : ℕ) → List ℕ
amend day e = correction 69 83 day e (7 * e) (8 * e) (9 * e)

-- on day 5 activity, a correction of edition 2, then activity without a count, edition 2 again, and edition 3; on day 6, before any activity, edition
-- 5, then 4 and activity; on day 2, which is not in effect, edition 1 twice
abbrev corrections : List (List ℕ)
corrections =
    orders 5 1 0 0 0 ∷ amend 5 2 ∷ orders 5 0 0 0 0 ∷ amend 5 2 ∷ amend 5 3
    ∷ amend 6 5 ∷ amend 6 4 ∷ orders 6 1 0 0 0
    ∷ amend 2 1 ∷ amend 2 1
    ∷ []

-- corrections that are refused: edition 0, on the day not in effect; one zero field not zero, there too, and the other, in a group unlisted; a group
-- unlisted; day 0; a byte more than 32; and a kind that is neither 4 nor 8
abbrev wrong : List (List ℕ)
wrong =
    amend 2 0 ∷ correction_with 1 0 69 83 2 9 7 8 9 ∷ correction_with 0 1 88 88 5 9 7 8 9
    ∷ correction 88 88 5 9 7 8 9 ∷ amend 0 9 ∷ (amend 5 9 ++ 0 ∷ []) ∷ (32 ∷ 0 ∷ 9 ∷ 0 ∷ drop 4 (amend 5 9))
    ∷ []

-- two new orders and three FAK/FOK orders with six minimum-quantity orders, then with five; with six on day 2, which is not in effect, and in an
-- unlisted contract; on day 8 new orders and FAK/FOK orders that are 2³² together, with one minimum-quantity order
abbrev minimums : List (List ℕ)
minimums =
    orders 7 2 0 3 6 ∷ orders 7 2 0 3 5 ∷ orders 2 2 0 3 6 ∷ activity 69 83 7 24240 2 0 0 3 0 0 6 0
    ∷ orders 8 4294967295 0 1 1
    ∷ []

-- a book with one number more than it needs, opened
abbrev book : List ℕ
book = open_book schedule (table (per_firm_group + 1) (λ i. 7))

-- where the cell of day 5 stands
abbrev fifth_day : ℕ
fifth_day = index 1 0 0 5

-- the book with that cell as no post leaves it: its totals above the limit, its edition 1
abbrev spoilt : List ℕ
spoilt = with_cell book fifth_day (record { totals = record { raw = 20000000000; score = 20000000000; lots = 20000000000 }; edition = 1 })

-- where the cell of day 7 stands
abbrev seventh_day : ℕ
seventh_day = index 1 0 0 7

-- the book with what the first of `minimums` added to that cell before 2.5
abbrev earlier : List ℕ
earlier = with_cell book seventh_day (record { totals = record { raw = 5; score = 27; lots = 0 }; edition = 0 })

-- the answers to a list, each post taking the book as the one before left it
abbrev answers : (B : List ℕ) → (rs : List (List ℕ)) → List (Outcome Effect)
answers B [] = []
answers B (R ∷ rs) = post_answer schedule B R ∷ answers (post_book schedule B R) rs

pub record Example : Type 0 where
  pub answered : answers book posts
      ≡ good effect.Counted ∷ good effect.Outside ∷ good effect.Counted ∷ refused 16 0 ∷ refused 17 0 ∷ refused 11 0
      ∷ good effect.Counted
      ∷ good effect.Counted ∷ refused 18 0 ∷ good effect.Counted
      ∷ []
  -- raw 1,000,000 + 1 + 10 + 100 and score 1 + 3 × (10 + 100 + 1,000 + 10,000 + 100,000), each twice
  pub accepts : accepted schedule posts 0 0 1 ≡ record { raw = 2000222; score = 666662; lots = 20000000 }
  pub passes : accepted schedule posts 0 0 2 ≡ none
  -- 2.2: the order is one message, and scores 3 as a FAK order and 3 for its minimum quantity
  pub both : accepted schedule posts 0 0 3 ≡ record { raw = 1; score = 6; lots = 0 }
  -- 18 is asked of the score with its minimum-quantity orders
  pub limited : accepted schedule posts 0 0 4 ≡ record { raw = 3333333334; score = 10000000000; lots = 0 }
  pub holds : posted schedule book posts
      ≡ over (2000222 ∷ 666662 ∷ 20000000 ∷ 0 ∷ 0 ∷ 0 ∷ 0 ∷ 0 ∷ 1 ∷ 6 ∷ 0 ∷ 0 ∷ 3333333334 ∷ 10000000000 ∷ 0 ∷ 0 ∷ []) book
  -- 2.3: whatever stood in the cell is replaced; then only a higher edition is taken, and no activity; on a day not in effect all is outside
  pub corrected : answers book corrections
      ≡ good effect.Counted ∷ good effect.Counted ∷ refused 32 0 ∷ refused 32 0 ∷ good effect.Counted
      ∷ good effect.Counted ∷ refused 32 0 ∷ refused 32 0
      ∷ good effect.Outside ∷ good effect.Outside
      ∷ []
  pub replaces : accepted_cells schedule corrections 0 0 5 ≡ record { totals = record { raw = 21; score = 24; lots = 27 }; edition = 3 }
  pub stays : accepted_cells schedule corrections 0 0 6 ≡ record { totals = record { raw = 35; score = 40; lots = 45 }; edition = 5 }
  pub keeps : posted schedule book corrections ≡ put fifth_day (21 ∷ 24 ∷ 27 ∷ 3 ∷ 35 ∷ 40 ∷ 45 ∷ 5 ∷ []) book
  -- 32 comes before 18; whatever stood in a cell is replaced
  pub replaced : answers spoilt (orders 5 1 0 0 0 ∷ amend 5 1 ∷ amend 5 2 ∷ []) ≡ refused 32 0 ∷ refused 32 0 ∷ good effect.Counted ∷ []
  pub refusals : answers book wrong
      ≡ refused 31 0 ∷ refused 31 0 ∷ refused 31 0 ∷ refused 15 0 ∷ refused 16 0 ∷ refused 13 0 ∷ refused 12 0 ∷ []
  -- 2.5: a record is refused with one minimum-quantity order too many, on a day not in effect too, and taken with an equal number; 17 comes before; the
  -- sum of new orders and FAK/FOK orders does not wrap
  pub impossible : answers book minimums ≡ refused 33 0 ∷ good effect.Counted ∷ refused 33 0 ∷ refused 17 0 ∷ good effect.Counted ∷ []
  -- it is refused too in a contract that is not counted
  pub aside : post_answer uncounted book (orders 7 2 0 3 6) ∷ post_answer uncounted book (orders 7 2 0 3 5) ∷ [] ≡ refused 33 0 ∷ good effect.Outside ∷ []
  pub equal : accepted schedule minimums 0 0 7 ≡ record { raw = 5; score = 24; lots = 0 }
  -- a record that 33 refuses is its firm's own all the same
  pub owns : own ABC minimums ≡ minimums
  -- counts that stand in a book stay, and what is taken adds to them, until a correction replaces them; 33 comes before 32
  pub stands : posted schedule earlier (orders 7 2 0 3 6 ∷ orders 7 2 0 3 5 ∷ []) ≡ put seventh_day (10 ∷ 51 ∷ 0 ∷ 0 ∷ []) book
  pub amended : posted schedule earlier (amend 7 1 ∷ []) ≡ put seventh_day (7 ∷ 8 ∷ 9 ∷ 1 ∷ []) book
  pub precedes : answers earlier (amend 7 1 ∷ orders 7 2 0 3 6 ∷ orders 7 2 0 3 5 ∷ []) ≡ good effect.Counted ∷ refused 33 0 ∷ refused 32 0 ∷ []

pub example : Example
unfolding accepted_cells posted taking totals_of correction_fields check_book check_of scan ending with_record cause is_repeated fields_ok
    constants_in_order constants_in_range is_full length_ok is_due kind_of firm_listed group_listed firm_is group_is group_start firm_ok firm_fields
    has_code group_in_range group_fields contracts_ok contract_bad before contract listed head_ok head_fields is_letter contract_is is_counted is_late
    is_after in_front contract_counted contract_listed days_in sum joined keep seek_in all choose u32_at u16_at
example =
    record {
      answered = refl;
      accepts = refl;
      passes = refl;
      both = refl;
      limited = refl;
      holds = refl;
      corrected = refl;
      replaces = refl;
      stays = refl;
      keeps = refl;
      replaced = refl;
      refusals = refl;
      impossible = refl;
      aside = refl;
      equal = refl;
      owns = refl;
      stands = refl;
      amended = refl;
      precedes = refl;
    }
