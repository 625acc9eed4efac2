-- What a month with grants comes to: 1 to 8, 37, 38, 21 or 22 refuses it, or 34 or 35 the first grant that has one, or it is the firm's month. Its grants change
-- the marks alone.
use Prim.Native.Nat.{ℕ}
use mathlib.Core.Bool.{Bool, true, false, not}
use mathlib.Core.List.{List, [], ◌∷◌}
use mathlib.Core.Path.{◌≡◌, refl, sym, ap, ◌∙◌}
use lib.ListN.{length, get_or}
use borrow.Author.Tests.{ne_eqb}
use Rattle.std.specs.Prelude.{Ok}
use Rattle.wire.specs.Choose.{choose}
use Rattle.wire.specs.Lists.{joined, table}
use Rattle.wire.proofs.Lists.{joined_same}
use Rattle.wire.proofs.Tables.{kept}
use Rattle.rules.specs.Marks.{places, no_grants, granted_mark, mark}
use Rattle.refusals.specs.Outcome.{refused, good}
use Rattle.lookup.specs.InForce.{rules_of}
use Rattle.lookup.specs.Lookup.{firm_place}
use Rattle.lookup.specs.declared.Layout.{Layout}
use Rattle.schedule.proofs.Good.{asked-good}
use Rattle.book.specs.Book.{check_book}
use Rattle.month.specs.Month.{month_of_firm, month_answer, HeldMonth, MonthIs}
use Rattle.month.specs.declared.Month.{Month}
use Rattle.month.proofs.Answers.{judged-book}
use Rattle.month.proofs.Held.{held-mark}
use Rattle.grants.specs.Grants.{grants_in, grant_at, is_whole, has_cell, grant_causes, grants_causes, named}
use Rattle.grants.specs.Month.{granted_answer, GrantedIs}
use Rattle.grants.specs.Parts.{with_grants}

-- a list of grants is taken, or refused by 34 or by 35
pub data ComesTo : ℕ → Type 0 where
  taken : ComesTo 0
  by_34 : ComesTo 34
  by_35 : ComesTo 35

one : (a b : Bool) → ComesTo (choose ((a, 34) ∷ (b, 35) ∷ []) 0)
unfolding choose
one true b = by_34
one false true = by_35
one false false = taken

pub comes_to : (S : List ℕ) (l : Layout) (G : List ℕ) → ComesTo (choose (grants_causes S l G) 0)
comes_to S l G =
    kept (λ k. grant_causes S l (grant_at G k)) (λ k. refl) ComesTo taken
    (λ k. one (not (is_whole (grant_at G k))) (not (has_cell S l (grant_at G k))))
    (grants_in G)

-- no grants are taken
pub none-refused : (S : List ℕ) (l : Layout) → choose (grants_causes S l []) 0 ≡ 0
unfolding choose joined
none-refused S l = refl

module _ (S B C G : List ℕ) where
  -- 1 to 8, 37, 38, 21 and 22
  pub is-refused : {n o : ℕ} → month_answer S B C ≡ refused n o → granted_answer S B C G ≡ refused n o
  unfolding granted_answer
  is-refused e = rw e

  module _ {l : Layout} (e : month_answer S B C ≡ good l) where
    -- 34 and 35
    pub is_34_35 : {n : ℕ} → choose (grants_causes S l G) 0 ≡ n → (n ≡ 0 → ⊥) → granted_answer S B C G ≡ refused n 0
    unfolding granted_answer
    is_34_35 {n} c z = rw (e, c, ne_eqb n 0 z)

    -- neither
    pub is_taken : choose (grants_causes S l G) 0 ≡ 0 → granted_answer S B C G ≡ good l
    unfolding granted_answer
    is_taken c = rw (e, c)

  -- a month that is not refused is not refused without grants
  pub granted-judged : {l : Layout} → granted_answer S B C G ≡ good l → month_answer S B C ≡ good l
  unfolding granted_answer
  granted-judged e = asked-good (λ l. grants_causes S l G) (month_answer S B C) e

  -- and is that of a schedule and a book that were checked
  pub granted-book : {l : Layout} → granted_answer S B C G ≡ good l → check_book S (length B) ≡ good l
  granted-book e = judged-book S B C (granted-judged e)

-- the marks with the grants, of a month that is held without
given_marks : (S : List ℕ) (l : Layout) (B : List ℕ) (f : ℕ) (named : (i : ℕ) → Bool) (m : Month) → HeldMonth S l B f no_grants m
    → with_grants named m.marks ≡ table places (mark (rules_of S) (month_of_firm S l B f named))
given_marks S l B f named m h =
    joined_same places _ _ (λ i k.
    let one : get_or m.marks i 0 ≡ mark (rules_of S) (month_of_firm S l B f no_grants) i = held-mark S l B f no_grants m h i k in
    ap (λ (n : ℕ). granted_mark (named i) n ∷ []) one)

-- so a month whose grants are taken, with these marks, is the firm's with its grants
pub held-granted : {S B C G : List ℕ} {m : Month} → MonthIs S B C (Ok m) → choose (grants_causes S m.layout G) 0 ≡ 0
    → (marks : List ℕ) → marks ≡ with_grants (named S m.layout C G) m.marks → GrantedIs S B C G (Ok (record m { marks = marks }))
held-granted {S} {B} {C} {G} {m} told c marks e =
    let h = told.held in
    record {
      answer = sym (is_taken S B C G (sym told.answer) c);
      held = record {
        layout = h.layout;
        firm = h.firm;
        groups = h.groups;
        verdicts = h.verdicts;
        marks = e ∙ given_marks S m.layout B (firm_place S m.layout C) (named S m.layout C G) m h;
      };
    }
