-- Demand 3 of the customer's letter, in the words of document 01 ("Demand 3 is a single claim about whole lists of posts") and of the calls,
-- bytes, scores, corrections, refusals, grants and constants as document 02, 2.1 to 2.9, has them; 2.10 has a claim of its own, DayOff.antt. S is the
-- schedule, any bytes; C a firm's code; rs a list of posts, any byte strings, activity and corrections among them in any order; G the grants, any bytes.
-- Proved in proofs/Demand3.antt: of every schedule and every firm that it lists.
-- Assumes nothing.
use Rattle.std.specs.Prelude.{ℕ, ◌+◌, ◌*◌, ◌≤◌, Bool, true, false, List, [], ◌≡◌, take, drop}
use Rattle.rules.specs.Month.{DailyTotals}
use Rattle.rules.specs.Verdict.{version96}
use Rattle.rules.specs.Marks.{Judged, judged, mark_without_grants, mark, violations, marked, billed, amount}
use Rattle.rules.specs.Lighter.{LighterMonth, NoSevereNamed}
use Rattle.rules.specs.declared.Rules.{Rules}
use Rattle.records.specs.Bodies.{length_at, kind_at}
use Rattle.refusals.specs.Outcome.{Outcome, refused, good, given}
use Rattle.lookup.specs.Lookup.{firm_listed, firm_place}
use Rattle.schedule.specs.Check.{nothing, check_of}
use Rattle.lookup.specs.InForce.{has_constants, rules_of}
use Rattle.lookup.specs.declared.Layout.{Layout}
use Rattle.book.specs.Book.{open_answer, open_book}
use Rattle.accepted.specs.Accepted.{accepted, own, of_bytes, posted}
use Rattle.month.specs.Month.{terms, month_of}
use Rattle.grants.specs.Grants.{named}
use Rattle.statement.specs.Layout.{line_size, totals_size, both_totals, totals_kind, totals_grouping, totals_zero, totals_violations, totals_monthly, totals_automatic, totals_granted, totals_billed, totals_dollars}
use Rattle.statement.specs.Statement.{statement_answer, statement_output}

-- what the schedule holds; nothing, where it is refused, and then open refuses every book
abbrev pub layout : (S : List ℕ) → Layout
layout S = given (check_of S) nothing (λ l. l)

module _ (S C : List ℕ) where
  -- a firm that the schedule lists
  abbrev pub is_listed : Bool
  is_listed = firm_listed S (layout S) C

  -- Accepted totals of its cells come from the schedule and the list alone; 2.3: those that stand after the list
  abbrev pub totals_after : (rs : List (List ℕ)) → DailyTotals
  totals_after rs = accepted S rs (firm_place S (layout S) C)

  -- Codes, exemptions and marks are worked out from its accepted totals by the rules in force; 2.6: marks from its grants too
  abbrev pub month_after : (rs : List (List ℕ)) → (G : List ℕ) → Judged
  month_after rs G = month_of S (layout S) (totals_after rs) (named S (layout S) C G)

  -- A firm's amount in a grouping is the sum of what the marks of its violations there cost; 2.6: with the grants counted
  abbrev pub amount_after : (rs : List (List ℕ)) → (G : List ℕ) → (e : ℕ) → ℕ
  amount_after rs G e = amount (rules_of S) (month_after rs G) e

  -- A list starts from a book that open has just set to zero without a refusal; after it the statement takes the same schedule, the book as
  -- it then stands, grants, and an output that 23 doesn't refuse
  pub record Run : Type 0 where
    pub book : List ℕ
    pub posts : List (List ℕ)
    pub grants : List ℕ
    pub output : List ℕ
    pub opened : open_answer S book ≡ good tt
    -- each post is a string of bytes; any bytes may be posted
    pub bytes : of_bytes posts ≡ true
    pub enough : statement_answer S (posted S (open_book S book) posts) C grants output ≡ refused 23 0 → ⊥

  -- what the statement answers
  abbrev pub answer_of : Run → Outcome ℕ
  answer_of p = statement_answer S (posted S (open_book S p.book) p.posts) C p.grants p.output

  -- and the output as it leaves it
  abbrev pub output_of : Run → List ℕ
  output_of p = statement_output S (posted S (open_book S p.book) p.posts) C p.grants p.output

  -- the firm's month after a run, and its amount in a grouping
  abbrev pub month : Run → Judged
  month p = month_after p.posts p.grants

  abbrev pub amount_of : Run → (e : ℕ) → ℕ
  amount_of p e = amount_after p.posts p.grants e

  -- 2.6: 34 and 35 don't refuse the run's grants
  pub record GrantsTaken (p : Run) : Type 0 where
    pub not_34 : answer_of p ≡ refused 34 0 → ⊥
    pub not_35 : answer_of p ≡ refused 35 0 → ⊥

  -- traffic falls: on each day in effect and in each group the firm's accepted raw count and score are no larger and its accepted lots no
  -- smaller after the second list, and no raw count above zero becomes zero
  abbrev pub Falls : (first second : List (List ℕ)) → Type 0
  Falls first second = LighterMonth (terms S (layout S)) (totals_after second) (totals_after first)

  -- 2.6: both months have the same grants, which 34 and 35 don't refuse, and none names one of the firm's days that is severe in the first
  pub record SameGrants (first second : Run) : Type 0 where
    pub same : first.grants ≡ second.grants
    pub taken : GrantsTaken first
    pub none_severe : NoSevereNamed (month first)

-- a totals record T of the grouping e: each number is the one that document 01 says it is, of the month j under the rules P
pub record TotalsAre (P : Rules) (T : List ℕ) (e : ℕ) (j : Judged) : Type 0 where
  pub length : length_at T 0 ≡ totals_size
  pub kind : kind_at T 0 ≡ totals_kind
  pub grouping : totals_grouping T ≡ e
  pub zero : totals_zero T ≡ 0
  -- 2.6: violations are the sum of all five marks: violations = monthly + automatic + granted + billed
  pub adds : totals_violations T ≡ totals_monthly T + totals_automatic T + totals_granted T + totals_billed T
  -- violations is the number of the firm's violations in that grouping
  pub violations_are : totals_violations T ≡ violations j e
  -- monthly, automatic and billed are the numbers of those with mark 3, with mark 4, and with mark 1 or 2; 2.6: granted that of those with mark 5
  pub monthly_are : totals_monthly T ≡ marked P j e 3
  pub automatic_are : totals_automatic T ≡ marked P j e 4
  pub granted_are : totals_granted T ≡ marked P j e 5
  pub billed_are : totals_billed T ≡ billed P j e
  -- the dollars are the firm's amount there; 2.6: with the grants counted
  pub dollars_are : totals_dollars T ≡ amount P j e

-- the bytes of a month's lines, one for each violation
abbrev pub after_lines : Judged → ℕ
after_lines j = line_size * (violations j 1 + violations j 2)

module _ (S C : List ℕ) (p : Run S C) where
  -- the totals of the first grouping stand in the output after the lines
  abbrev pub first_totals : List ℕ
  first_totals = drop (after_lines (month S C p)) (output_of S C p)

  -- and those of the second after them
  abbrev pub second_totals : List ℕ
  second_totals = drop (after_lines (month S C p) + totals_size) (output_of S C p)

  -- the statement is not refused, and in each grouping its totals add up, from the firm's accepted totals
  pub record AddsUp : Type 0 where
    pub answered : answer_of S C p ≡ good (after_lines (month S C p) + both_totals)
    pub first : TotalsAre (rules_of S) first_totals 1 (month S C p)
    pub second : TotalsAre (rules_of S) second_totals 2 (month S C p)

-- the dollars that stand in the totals of q are no more than those of p
pub record DollarsFall (S C : List ℕ) (p q : Run S C) : Type 0 where
  pub first : totals_dollars (first_totals S C q) ≤ totals_dollars (first_totals S C p)
  pub second : totals_dollars (second_totals S C q) ≤ totals_dollars (second_totals S C p)

-- 2.6: the statement answers the same, also where 34 or 35 refuses both, and has the same bytes where it is written. Statement bytes are the bytes
-- written, and their number; outputs may differ beyond them
pub record SameStatement (S C : List ℕ) (p q : Run S C) : Type 0 where
  pub answer : answer_of S C p ≡ answer_of S C q
  pub bytes : (written : ℕ) → answer_of S C p ≡ good written → take written (output_of S C p) ≡ take written (output_of S C q)

pub record Demand3 (S C : List ℕ) : Type 0 where
  -- the firm's amount never rises in either exchange grouping as traffic falls, whatever the others sent; 2.6: with the same grants, which 34 and 35
  -- don't refuse, and none of which names a day that was severe; 2.9: under one set of constants, that of the schedule, whatever lawful set it is
  pub falls : (p q : Run S C) → Falls S C p.posts q.posts → SameGrants S C p q → (e : ℕ) → amount_of S C q e ≤ amount_of S C p e
  -- nor do the dollars in its statement
  pub dollars_fall : (p q : Run S C) → Falls S C p.posts q.posts → SameGrants S C p q → DollarsFall S C p q
  -- after every such list, in each grouping of its statement, violations = monthly + automatic + granted + billed, and the dollars are the firm's
  -- amount; 2.6: in every statement that 34 and 35 don't refuse
  pub adds_up : (p : Run S C) → GrantsTaken S C p → AddsUp S C p
  -- a firm whose own posts are the same list in both gets the same statement bytes, whatever the others sent; 2.6: when the grants are the same too
  pub own_only : (p q : Run S C) → own C p.posts ≡ own C q.posts → p.grants ≡ q.grants → SameStatement S C p q

-- 2.9: absent, version 9.6's numbers hold, so that the claim is about amounts worked out by them
pub record Under96 (S C : List ℕ) : Type 0 where
  pub in_force : has_constants S ≡ false → rules_of S ≡ version96
  pub amount_is : has_constants S ≡ false → (rs : List (List ℕ)) (G : List ℕ) (e : ℕ)
      → amount_after S C rs G e ≡ amount version96 (judged version96 (terms S (layout S)) (totals_after S C rs) (named S (layout S) C G)) e

-- both are written, and have the same bytes
pub record SameBytes (S C : List ℕ) (p q : Run S C) : Type 0 where
  pub written : ℕ
  pub first : answer_of S C p ≡ good written
  pub second : answer_of S C q ≡ good written
  pub bytes : take written (output_of S C p) ≡ take written (output_of S C q)

-- the claim without grants: nothing is asked of them, and no statement is refused
pub record WithoutGrants (S C : List ℕ) : Type 0 where
  -- what is asked of grants holds; so 2.10's claim (DayOff.antt) is one without them too
  pub same_grants : (p q : Run S C) → p.grants ≡ [] → q.grants ≡ [] → SameGrants S C p q
  -- every mark is that without grants, and none is 5
  pub marks : (p : Run S C) → p.grants ≡ [] → (i : ℕ) → mark (rules_of S) (month S C p) i ≡ mark_without_grants (rules_of S) (month S C p) i
  pub none_granted : (p : Run S C) → p.grants ≡ [] → (e : ℕ) → marked (rules_of S) (month S C p) e 5 ≡ 0
  pub falls : (p q : Run S C) → p.grants ≡ [] → q.grants ≡ [] → Falls S C p.posts q.posts → (e : ℕ) → amount_of S C q e ≤ amount_of S C p e
  pub dollars_fall : (p q : Run S C) → p.grants ≡ [] → q.grants ≡ [] → Falls S C p.posts q.posts → DollarsFall S C p q
  pub adds_up : (p : Run S C) → p.grants ≡ [] → AddsUp S C p
  pub own_only : (p q : Run S C) → p.grants ≡ [] → q.grants ≡ [] → own C p.posts ≡ own C q.posts → SameBytes S C p q
