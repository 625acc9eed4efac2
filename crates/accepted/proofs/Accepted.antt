-- Accepted totals and editions are a fold, so each law of them is one of a single record: one that is taken into a firm's cell is the firm's own,
-- leaves the cell within the limit, and has its cell in the book.
use Prim.Native.Nat.{ℕ}
use mathlib.Core.Bool.{Bool, true, false, cond, not, ◌&&◌, false≢true}
use mathlib.Core.List.{List, [], ◌∷◌, foldl, map}
use mathlib.Core.Path.{◌≡◌, refl, sym, ◌∙◌, subst, fun_ext}
use native.Mathlib.Omega.{arith}
use lib.Dec.{leb, eqb}
use borrow.Author.Tests.{eqb-true, eq-eqb, le-leb, not-false}
use Rattle.records.specs.Bodies.{rest_at}
use Rattle.std.specs.Prelude.{Some}
use Rattle.std.proofs.lemmas.Slice.Eq.{bytes_eq-Decides}
use Rattle.records.specs.Fields.{firm_fields, same_code, has_code}
use Rattle.records.proofs.Parts.{code-letters}
use Rattle.wire.specs.Bytes.{are_bytes, u32_at}
use Rattle.wire.specs.Choose.{all}
use Rattle.std.specs.Cmp.{first_so, second_so}
use Rattle.wire.proofs.Bools.{never}
use Rattle.wire.proofs.Bytes.{u32_most}
use Rattle.wire.proofs.Folds.{fold_kept, fold_kept_of, keep_fold}
use Rattle.wire.proofs.Choose.{Passed, every}
use Rattle.rules.specs.Verdict.{limit, fits}
use Rattle.lookup.specs.Lookup.{firm_start, firm_is, firm_found}
use Rattle.refusals.specs.Outcome.{good}
use Rattle.schedule.specs.Check.{check_of}
use Rattle.lookup.specs.declared.Layout.{Layout}
use Rattle.lookup.proofs.Laws.{firm-found}
use Rattle.activity.specs.Activity.{is_activity, firm_code, day, totals_of}
use Rattle.activity.specs.Correction.{correction_fields}
use Rattle.cell.specs.Cell.{is_within, empty, grown}
use Rattle.filing.specs.Causes.{firm_place_of, group_place_of}
use Rattle.cell.specs.Entry.{corrected, entered, cell_causes}
use Rattle.book.specs.Post.{is_taken, taking}
use Rattle.accepted.specs.Accepted.{is_at, accept, accepted_cells, is_own, own, of_bytes}
use Rattle.cell.specs.declared.Cell.{Cell}
use Rattle.book.proofs.Places.{Placed}
use Rattle.accepted.proofs.Cells.{Same}
use Rattle.book.proofs.Taken.{Taken, taken}

-- a record whose cell is that of firm f, group g and day d, by the test and by its parts
module _ (S : List ℕ) (l : Layout) (f g d : ℕ) (R : List ℕ) where
  pub at_same : is_at S l f g d R ≡ true → Same (firm_place_of S l R) (group_place_of S l R) (day R) f g d
  at_same e =
      let x = eqb (firm_place_of S l R) f in
      let y = eqb (group_place_of S l R) g in
      let z = eqb (day R) d in
      let rest = second_so x (y && z) e in
      record {
        firm = eqb-true _ _ (first_so x (y && z) e);
        group = eqb-true _ _ (first_so y z rest);
        day = eqb-true _ _ (second_so y z rest);
      }

  pub same_at : Same (firm_place_of S l R) (group_place_of S l R) (day R) f g d → is_at S l f g d R ≡ true
  same_at s = rw (eq-eqb _ _ s.firm, eq-eqb _ _ s.group, eq-eqb _ _ s.day)

  -- what is so of a record that is taken into that cell, c
  record Lands (c : Cell) : Type 0 where
    same : Same (firm_place_of S l R) (group_place_of S l R) (day R) f g d
    passed : Taken S l R c

  lands : (c : Cell) → (is_at S l f g d R && is_taken (taking S l c R)) ≡ true → Lands c
  lands c e =
      record {
        same = at_same (first_so (is_at S l f g d R) (is_taken (taking S l c R)) e);
        passed = taken S l R c (second_so (is_at S l f g d R) (is_taken (taking S l c R)) e);
      }

-- what a record that its cell's causes do not refuse makes of a cell is within the limit, as the cell was: activity by 18, a correction by its bytes
entered-within : (c : Cell) (R : List ℕ) → are_bytes R ≡ true → is_within c ≡ true → Passed (cell_causes c R) → is_within (entered c R) ≡ true
unfolding correction_fields
entered-within c R b q p = go (is_activity R) p.1.0
  where
    small : (i : ℕ) → leb (u32_at R i) limit ≡ true
    small i = le-leb (u32_at R i) limit (omega (arith, u32_most R i b))

    go : (k : Bool) → (k && not (fits 1 (grown c (totals_of R)).totals)) ≡ false → is_within (cond k (grown c (totals_of R)) (corrected (correction_fields R))) ≡ true
    go true e = rw (not-false (fits 1 (grown c (totals_of R)).totals) e, second_so (fits 1 c.totals) (leb c.edition limit) q)
    go false e = rw (every (map (λ (i : ℕ). leb (u32_at R i) limit) (16 ∷ 20 ∷ 24 ∷ [])) (small 16, (small 20, (small 24, tt))), small 12)

-- two codes that firm i has are the same
codes_agree : (S : List ℕ) (start i : ℕ) (A C : List ℕ) → firm_is S start A i ≡ true → firm_is S start C i ≡ true → same_code A C ≡ true
unfolding firm_is has_code firm_fields
codes_agree S start i A C a c =
    let letters = (firm_fields (rest_at S (firm_start start i))).code in
    subst (λ (X : List ℕ). same_code X C ≡ true) ((bytes_eq-Decides letters A).0 a) (sym (code-letters _ _ _ C) ∙ c)

-- a record that is taken into a firm's cell is the firm's own
lands_own : (S : List ℕ) (l : Layout) (C : List ℕ) (f g d : ℕ) (R : List ℕ) {c : Cell}
    → firm_found S l C ≡ Some f
    → Lands S l f g d R c → is_own C R ≡ true
lands_own S l C f g d R e h =
    rw (eq-eqb _ _ h.passed.passes.form)
    (codes_agree S l.start f (firm_code R) C (rw h.same.firm at h.passed.passes.code) (firm-found S l C (sym e)).holds)

module _ (S : List ℕ) {l : Layout} (e : check_of S ≡ good l) where
  -- what the list makes of a cell, by what the schedule holds
  pub accepted_fold : (rs : List (List ℕ)) (f g d : ℕ) → accepted_cells S rs f g d ≡ foldl (accept S l f g d) empty rs
  unfolding accepted_cells
  accepted_fold rs f g d = rw e

  -- a record that cannot be taken into a cell leaves it
  skipped : (f g d : ℕ) (c : Cell) (R : List ℕ) → (Lands S l f g d R c → ⊥) → accept S l f g d c R ≡ c
  skipped f g d c R n =
      let no = never (is_at S l f g d R && is_taken (taking S l c R)) (λ h. n (lands S l f g d R c h)) in
      rw no

  -- a firm's cells are those that its own posts make
  pub accepted-own : (C : List ℕ) (f : ℕ) (rs : List (List ℕ)) → firm_found S l C ≡ Some f
      → accepted_cells S (own C rs) f ≡ accepted_cells S rs f
  accepted-own C f rs who =
      fun_ext (λ g. fun_ext (λ d.
      accepted_fold (own C rs) f g d
      ∙ keep_fold (is_own C) (accept S l f g d)
      (λ c R n. skipped f g d c R (λ h. false≢true (sym n ∙ lands_own S l C f g d R who h)))
      empty
      rs
      ∙ sym (accepted_fold rs f g d)))

  -- a cell for which the book has no place stays empty
  pub accepted-none : (rs : List (List ℕ)) (f g d : ℕ) → (Placed l.groups g d → ⊥) → accepted_cells S rs f g d ≡ empty
  accepted-none rs f g d n =
      accepted_fold rs f g d
      ∙ fold_kept (λ c. c ≡ empty) (accept S l f g d)
      (λ c R q. skipped f g d c R (λ h. n (rw (h.same.group, h.same.day) at h.passed.passes.placed)) ∙ q)
      empty
      rs
      refl

  -- no accepted total and no edition is above the limit
  pub accepted-within : (rs : List (List ℕ)) → of_bytes rs ≡ true → (f g d : ℕ) → is_within (accepted_cells S rs f g d) ≡ true
  unfolding of_bytes all
  accepted-within rs bytes f g d =
      rw (accepted_fold rs f g d) (fold_kept_of (λ c. is_within c ≡ true) are_bytes (accept S l f g d) step empty rs bytes refl)
    where
      step : (c : Cell) (R : List ℕ) → are_bytes R ≡ true → is_within c ≡ true → is_within (accept S l f g d c R) ≡ true
      step c R b q = go (is_at S l f g d R && is_taken (taking S l c R)) refl
        where
          go : (x : Bool) → (is_at S l f g d R && is_taken (taking S l c R)) ≡ x → is_within (cond x (entered c R) c) ≡ true
          go true h = entered-within c R b q (lands S l f g d R c h).passed.cell
          go false h = q
