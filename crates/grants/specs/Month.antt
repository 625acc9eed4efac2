-- A firm's month with its grants (document 02, 2.6). S is the schedule, l what it holds, B the book, C the firm's code, G the grants.
-- Assumes nothing.
use Rattle.std.specs.Prelude.{ℕ, List, Result, IfOk, ◌≡◌}
use Rattle.rules.specs.Marks.{Judged}
use Rattle.refusals.specs.Outcome.{Outcome, good, follow, asked}
use Rattle.refusals.specs.declared.Refusal.{Refusal}
use Rattle.lookup.specs.Lookup.{firm_place}
use Rattle.lookup.specs.declared.Layout.{Layout}
use Rattle.month.specs.Month.{month_of, firm_totals, month_answer, HeldMonth, month_meaning}
use Rattle.month.specs.declared.Month.{Month}
use Rattle.grants.specs.Grants.{grants_causes, named}

module _ (S B C G : List ℕ) where
  -- its month: the automatic waivers are those of a month without grants, and then its grants are counted
  abbrev pub granted_month : (l : Layout) → Judged
  granted_month l = month_of S l (firm_totals S B C l) (named S l C G)

  -- Numbers of refusal: 1 to 8, 37 and 38 (2.9), 21 and 22, and after 22 (2.6), grant by grant, 34 and 35; else what the schedule holds
  unfoldable pub granted_answer : Outcome Layout
  granted_answer = follow (month_answer S B C) (λ l. asked (grants_causes S l G) (good l))

  -- what the call promises: a refusal, or the firm's month with its grants
  pub record GrantedIs (r : Result Month Refusal) : Type 0 where
    pub answer : month_meaning r ≡ granted_answer
    pub held : IfOk r (λ m. HeldMonth S m.layout B (firm_place S m.layout C) (named S m.layout C G) m)
