-- A search by code in a good schedule finds the only record of its kind that has the code: no code is repeated. A listed group's fields are in range, and
-- the constants in force are a lawful set.
use Prim.Native.Nat.{ℕ, ◌≤◌, ◌<◌}
use mathlib.Core.Bool.{Bool, true, false}
use mathlib.Core.List.{List}
use mathlib.Core.Path.{◌≡◌, refl, sym, ap, ◌∙◌}
use native.Mathlib.Omega.{arith}
use Rattle.std.specs.Prelude.{Some, None}
use Rattle.std.proofs.lemmas.Slice.Eq.{bytes_eq-Decides}
use Rattle.wire.specs.Choose.{within}
use Rattle.wire.proofs.Choose.{each, none_at}
use Rattle.rules.specs.Verdict.{is_benchmark}
use Rattle.rules.specs.Constants.{clamped}
use Rattle.rules.specs.Laws.{Laws}
use Rattle.rules.proofs.Laws.{lawful_sets}
use Rattle.records.specs.Bodies.{rest_at}
use Rattle.records.specs.Fields.{are_letters, group_fields, group_in_range}
use Rattle.records.specs.declared.fields.Group.{Group}
use Rattle.refusals.specs.Outcome.{good}
use Rattle.lookup.specs.Lookup.{group_start, group_is, group_listed, firm_is, firm_listed, group_at, group_found_at, group_found, firm_found}
use Rattle.lookup.specs.InForce.{rules_of}
use Rattle.schedule.specs.Check.{check_of}
use Rattle.schedule.specs.Good.{Once, Only, Searched}
use Rattle.lookup.specs.declared.GroupPlace.{GroupPlace}
use Rattle.lookup.specs.declared.Layout.{Layout}
use Rattle.lookup.proofs.Laws.{FoundAt, firm-found, firm_unlisted, group-found, group_placed, group_unlisted}
use Rattle.schedule.proofs.Good.{body_byte, good-schedule}

-- what was found is the only one, where no code is repeated
only : {n : ℕ} {p : ℕ → Bool} {i : ℕ} → Once n p → FoundAt n p i → Only n p i
only {n} {p} {i} once f = record { inside = f.inside; holds = f.holds; only = λ j h t. once j i h f.inside t f.holds }

-- the fields of a group that are in range, one by one
pub record InRange (g : Group) : Type 0 where
  pub code : are_letters g.code ≡ true
  pub grouping : within 1 2 g.grouping ≡ true
  pub k : within 1 64 g.k ≡ true
  pub benchmark : is_benchmark g.benchmark ≡ true
  pub front : within 1 4095 g.front ≡ true
  pub extra : within 0 4095 g.extra ≡ true

in_range : (g : Group) → group_in_range g ≡ true → InRange g
unfolding group_in_range
in_range g e =
    let t = each _ e in
    let u = t.1.1 in
    record {
      code = t.0;
      grouping = t.1.0;
      k = u.0;
      benchmark = u.1.0;
      front = u.1.1.0;
      extra = u.1.1.1.0;
    }

module _ (S : List ℕ) {l : Layout} (e : check_of S ≡ good l) where
  pub group-listed : (g : ℕ) → g < l.groups → InRange (group_at S l g)
  group-listed g h = in_range (group_at S l g) ((good-schedule S e).ranges g h)

  -- 2.9: the constants in force are judged by as they are, a day costs at most 10,000 dollars under them, and the laws hold of them
  pub rules-clamped : clamped (rules_of S) ≡ rules_of S
  rules-clamped = lawful_sets.as_it_is (rules_of S) (good-schedule S e).lawful

  pub rules-dollars : (rules_of S).dollars ≤ 10000
  rules-dollars = lawful_sets.most_dollars (rules_of S) (good-schedule S e).lawful

  pub rules-laws : Laws (rules_of S)
  rules-laws = lawful_sets.laws (rules_of S) (good-schedule S e).lawful

  -- a listed group's code is that by which it is found
  code_found : (g : ℕ) → g < l.groups → (group_fields (rest_at S (group_start S l.first g))).code ≡ (group_at S l g).code
  unfolding group_fields
  code_found g h =
      let at = group_start S l.first g in
      let size = ((good-schedule S e).groups g h).size in
      rw (body_byte S at 0 (omega arith), body_byte S at 1 (omega arith)) refl

  pub group-code : (C : List ℕ) (g : ℕ) → g < l.groups → group_is S l.first C g ≡ true → (group_at S l g).code ≡ C
  unfolding group_is
  group-code C g h t = sym (code_found g h) ∙ (bytes_eq-Decides _ C).0 t

  pub group-own : (g : ℕ) → g < l.groups → group_is S l.first (group_at S l g).code g ≡ true
  unfolding group_is
  group-own g h = (bytes_eq-Decides _ (group_at S l g).code).1 (code_found g h)

  only_group : (C : List ℕ) {g : GroupPlace} → group_found S l C ≡ Some g → Only l.groups (group_is S l.first C) g.index
  only_group C f = only ((good-schedule S e).group_once C) (group-found S l C (sym f))

  group-stands : (C : List ℕ) {g : GroupPlace} → group_found S l C ≡ Some g → g ≡ group_found_at S l g.index
  group-stands C f = group_placed S l C (sym f) ∙ ap (group_found_at S l) (group-found S l C (sym f)).first

  no-group : (C : List ℕ) → group_found S l C ≡ None → (i : ℕ) → i < l.groups → group_is S l.first C i ≡ false
  unfolding group_listed
  no-group C f = none_at _ _ (group_unlisted S l C (sym f))

  only_firm : (C : List ℕ) {i : ℕ} → firm_found S l C ≡ Some i → Only l.firms (firm_is S l.start C) i
  only_firm C f = only ((good-schedule S e).firm_once C) (firm-found S l C (sym f))

  no-firm : (C : List ℕ) → firm_found S l C ≡ None → (i : ℕ) → i < l.firms → firm_is S l.start C i ≡ false
  unfolding firm_listed
  no-firm C f = none_at _ _ (firm_unlisted S l C (sym f))

  pub searched : Searched S l
  searched = record { group = only_group; group_stands = group-stands; no_group = no-group; firm = only_firm; no_firm = no-firm }
