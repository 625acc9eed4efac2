-- What a statement of a firm's month comes to: a refused month refuses it, and what is written lies within the output; and what the arrays of
-- a month show is what the month shows.
use Prim.Native.Nat.{ℕ, ◌+◌, ◌*◌, ◌≤◌}
use mathlib.Core.Bool.{Bool, true, false, cond, not}
use mathlib.Core.List.{List}
use mathlib.Core.Path.{◌≡◌, refl, sym, ap, ◌∙◌}
use native.Mathlib.Omega.{arith}
use lib.Dec.{eqb, ltb}
use lib.ListN.{length}
use borrow.Author.Tests.{ltb-false}
use Rattle.std.specs.Prelude.{Ok}
use Rattle.std.proofs.lemmas.Result.{err_from_is_err_and}
use Rattle.wire.specs.Sums.{bit}
use Rattle.wire.proofs.Sums.{sum_same}
use Rattle.rules.specs.Marks.{places, Judged}
use Rattle.refusals.specs.Outcome.{Outcome, refused, good}
use Rattle.lookup.specs.Lookup.{firm_place}
use Rattle.lookup.specs.InForce.{rules_of}
use Rattle.lookup.specs.declared.Layout.{Layout}
use Rattle.refusals.proofs.Outcomes.{refused-good}
use Rattle.month.specs.Month.{month_of_firm, HeldMonth}
use Rattle.grants.specs.Grants.{named}
use Rattle.grants.specs.Month.{granted_month, granted_answer, GrantedIs}
use Rattle.statement.specs.Layout.{line_size, both_totals}
use Rattle.statement.specs.Statement.{statement_bytes, need, statement_answer, StatementIs}
use Rattle.month.specs.declared.GroupMonth.{GroupMonth}
use Rattle.month.specs.declared.Month.{Month}
use Rattle.month.proofs.Held.{held-mark, held-factor, held-group, held-fields}
use Rattle.statement.specs.Parts.{held_need, held_shown, HeldIs}
use Rattle.statement.proofs.Shown.{marks-count, bytes-length, shown_same}

module _ (S B C G out : List ℕ) where
  -- 1 to 8, 37, 38, 21, 22, 34 and 35
  pub is-refused : {n o : ℕ} → granted_answer S B C G ≡ refused n o → StatementIs S B C G out (refused n o) out
  is-refused e = record { answer = rw e; output = rw e }

  -- a statement that is written has its two totals, and lies within the output
  pub written_bounds : {n : ℕ} → statement_answer S B C G out ≡ good n → (both_totals ≤ n) × (n ≤ length out)
  written_bounds {n} e = go (granted_answer S B C G) refl
    where
      under : (l : Layout) → (b : Bool) → ltb (length out) (need (granted_month S B C G l)) ≡ b
          → cond b (refused 23 0) (good (length (statement_bytes S l (granted_month S B C G l)))) ≡ good n
          → (both_totals ≤ n) × (n ≤ length out)
      under l true z w = absurd (refused-good w)
      under l false z w =
          let j = granted_month S B C G l in
          let fits = ltb-false (length out) (need j) z in
          let n-is : length (statement_bytes S l j) ≡ n = cc in
          let size = bytes-length S l j in
          (omega arith, omega arith)

      go : (x : Outcome Layout) → granted_answer S B C G ≡ x → (both_totals ≤ n) × (n ≤ length out)
      go (refused number offset) q = absurd (refused-good (rw q at e))
      go (good l) q = under l (ltb (length out) (need (granted_month S B C G l))) refl (rw q at e)

-- a month that holds the groups, verdicts and marks of a judged one
module _ (S : List ℕ) (l : Layout) (B : List ℕ) (f : ℕ) (named : (i : ℕ) → Bool) (m : Month) (held : HeldMonth S l B f named m) where
  abbrev j : Judged
  j = month_of_firm S l B f named

  pub held_need_is : held_need m ≡ need j
  held_need_is =
      ap (λ (n : ℕ). line_size * n + both_totals)
      (sum_same places _ _ (λ i h. ap (λ (k : ℕ). bit (not (eqb k 0))) (held-mark S l B f named m held i h)) ∙ marks-count (rules_of S) j)

  pub held_shown_is : held_shown (rules_of S) S m ≡ statement_bytes S l j
  held_shown_is =
      shown_same (rules_of S) _ _ _ _ _ _ _ _ (held-fields S l B f named m held)
      (λ i h. ap (λ (g : GroupMonth). g.grouping) (held-group S l B f named m held i h)) (held-mark S l B f named m held) (held-factor S l B f named m held)

-- what is written of a firm's month, or refused by 23, is the firm's statement
pub stated : (S B C G out : List ℕ) {m : Month} {a : Outcome ℕ} {out' : List ℕ} → GrantedIs S B C G (Ok m) → HeldIs S m out a out' → StatementIs S B C G out a out'
stated S B C G out {m} told w =
    let e = sym told.answer in
    let n = held_need_is S m.layout B (firm_place S m.layout C) (named S m.layout C G) m told.held in
    let s = held_shown_is S m.layout B (firm_place S m.layout C) (named S m.layout C G) m told.held in
    record { answer = rw e (rw (n, s) at w.answer); output = rw e (rw (n, s) at w.output) }

-- a statement's answer
pub ruleset telling = (err_from_is_err_and, is-refused)
