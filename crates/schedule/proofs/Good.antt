-- A good schedule holds what specs/Good.antt says: each accepted record keeps it, so it holds where the scan ends.
use Prim.Native.Nat.{ℕ, zero, suc, ◌+◌, ◌-◌, ◌*◌, ◌%◌, ◌≤◌, ◌<◌}
use mathlib.Core.Bool.{Bool, true, false, cond, not, ◌||◌, false≢true}
use mathlib.Core.List.{List, ◌++◌}
use mathlib.Core.Path.{◌≡◌, refl, sym, ◌∙◌, subst}
use native.Mathlib.Omega.{arith}
use lib.Dec.{eqb, leb}
use lib.ListN.{length, get_or, length-take, length-drop}
use lib.Seq.{get_or-take}
use borrow.Author.Count.{below_more}
use borrow.Author.Tests.{leb-false, leb-true, eqb-true, eqb-false, eq-eqb, ne_eqb, not-true}
use Rattle.std.proofs.lemmas.Slice.Eq.{bytes_eq-Decides}
use Rattle.wire.specs.Choose.{choose, within}
use Rattle.std.specs.Cmp.{first_so, second_so}
use Rattle.wire.proofs.Bools.{range, in_range as is-within}
use Rattle.wire.proofs.Choose.{here, next, done, chosen, none_at, choose_most, every}
use Rattle.records.specs.Bodies.{length_at, kind_at, rest_at, body_at, head_kind, constants_kind, head_size, constants_size, least_group, largest_group, group_kind, firm_size}
use Rattle.rules.specs.Constants.{in_range, in_order, is_lawful}
use Rattle.rules.proofs.Laws.{lawful_sets}
use Rattle.records.specs.Fields.{head_fields, head_ok, constants_fields, group_fields, group_in_range, firm_fields, has_code}
use Rattle.records.proofs.Parts.{code-letters}
use Rattle.contracts.specs.Listing.{contracts_ok, listed}
use Rattle.records.specs.declared.fields.Firm.{Firm}
use Rattle.refusals.specs.Outcome.{Outcome, refused, good, follow, asked}
use Rattle.refusals.proofs.Outcomes.{refused-good}
use Rattle.lookup.specs.Lookup.{group_start, firm_start, group_is, firm_is, group_listed, firm_listed}
use Rattle.lookup.specs.InForce.{has_constants, rules_of, groups_from}
use Rattle.schedule.specs.Check.{kind_here, is_due, length_ok, constants_in_range, constants_in_order, fields_ok, is_repeated, header_causes, body_causes, cause, with_record, after, ending, Fine, scan, begin, check_of}
use Rattle.schedule.specs.Good.{Once, GroupStands, FirmStands, GoodSchedule, is_cause, Numbered}
use Rattle.lookup.specs.declared.Layout.{Layout}
use Rattle.schedule.specs.declared.scan.Cursor.{Cursor}
use Rattle.schedule.specs.declared.scan.Kind.{Kind}
use Rattle.schedule.specs.declared.scan.Kind.TheVariants as kind
use Rattle.schedule.proofs.Numbers.{HasNumber, kind_number}
use Rattle.lookup.proofs.Laws.{group_next, group-first}
use Rattle.schedule.proofs.Turns.{taken, accepted, scan_end, scan_refused, scan_next}

-- what is good after causes were asked of it was good before
pub asked-good : {A : Type 0} (causes : A → List (Bool × ℕ)) (x : Outcome A) {a : A} → follow x (λ k. asked (causes k) (good k)) ≡ good a → x ≡ good a
asked-good causes (refused n o) e = absurd (refused-good e)
asked-good causes (good k) {a} e = by (eqb (choose (causes k) 0) 0) (choose (causes k) 0) e
  where
    by : (b : Bool) (n : ℕ) → cond b (good k) (refused n 0) ≡ good a → good k ≡ good a
    by true n e = e
    by false n e = absurd (refused-good e)

-- and no cause held
pub asked-passed : {A : Type 0} (causes : A → List (Bool × ℕ)) (x : Outcome A) {a : A} → follow x (λ k. asked (causes k) (good k)) ≡ good a
    → choose (causes a) 0 ≡ 0
asked-passed causes (refused n o) e = absurd (refused-good e)
asked-passed causes (good k) {a} e = by (eqb (choose (causes k) 0) 0) refl e
  where
    by : (b : Bool) → eqb (choose (causes k) 0) 0 ≡ b → cond b (good k) (refused (choose (causes k) 0) 0) ≡ good a → choose (causes a) 0 ≡ 0
    by true z e = let same : k ≡ a = cc in rw (← same) (eqb-true (choose (causes k) 0) 0 z)
    by false z e = absurd (refused-good e)

-- where a good schedule ends: P holds there, no bytes are left, and the layout is that of the place
record Ended (S : List ℕ) (P : Cursor → Type 0) (l : Layout) : Type 0 where
  place : Cursor
  kept : P place
  over : length S ≤ place.at
  layout : ending S place.held ≡ good l

-- what holds where the scan starts, and is kept by each accepted record, holds where a good schedule ends
module _ (S : List ℕ) (P : Cursor → Type 0) (kept : (p : Cursor) → p.at < length S → cause S p ≡ 0 → P p → P (after S p)) where
  at_end : (n : ℕ) (p : Cursor) {l : Layout} → P p → scan S n p ≡ good l → Ended S P l
  unfolding scan
  at_end zero p h e = absurd (refused-good e)
  at_end (suc n) p {l} h e = by (leb (length S) p.at) (eqb (cause S p) 0) refl refl (λ g f. at_end n (after S p) g f)
    where
      by : (a b : Bool) → leb (length S) p.at ≡ a → eqb (cause S p) 0 ≡ b → (P (after S p) → scan S n (after S p) ≡ good l → Ended S P l) → Ended S P l
      by true b s t rest = record { place = p; kept = h; over = leb-true _ _ s; layout = sym (chosen (here s)) ∙ e }
      by false true s t rest = rest (kept p (leb-false _ _ s) (eqb-true _ _ t) h) (sym (chosen (next s (here t))) ∙ e)
      by false false s t rest = absurd (refused-good (sym (chosen (next s (next t done))) ∙ e))

  good_end : {l : Layout} → P begin → check_of S ≡ good l → Ended S P l
  unfolding check_of
  good_end h e = at_end (length S + 1) begin h e

-- a good schedule's layout is that of the place where it ends, and it has a firm
ending-good : (S : List ℕ) (q l : Layout) → ending S q ≡ good l → (q ≡ l) × (q.firms ≡ 0 → ⊥)
unfolding ending
ending-good S q l e = by (eqb q.firms 0) refl e
  where
    by : (b : Bool) → eqb q.firms 0 ≡ b → cond b (refused 4 (length S)) (good q) ≡ good l → (q ≡ l) × (q.firms ≡ 0 → ⊥)
    by true t f = absurd (refused-good f)
    by false t f = (cc, eqb-false q.firms 0 t)

-- one place more, at which the test holds only where it holds nowhere before
once_more : (n : ℕ) (p : ℕ → Bool) → Once n p → (p n ≡ true → (i : ℕ) → i < n → p i ≡ false) → Once (n + 1) p
once_more n p once new i j hi hj ei ej = by (eqb i n) (eqb j n) refl refl
  where
    by : (a b : Bool) → eqb i n ≡ a → eqb j n ≡ b → i ≡ j
    by true true s t = eqb-true i n s ∙ sym (eqb-true j n t)
    by true false s t =
        let l : j < n = omega (arith, eqb-false j n t) in
        absurd (false≢true (sym (new (rw (eqb-true i n s) at ei) j l) ∙ ej))
    by false true s t =
        let l : i < n = omega (arith, eqb-false i n s) in
        absurd (false≢true (sym (new (rw (eqb-true j n t) at ej) i l) ∙ ei))
    by false false s t = once i j (omega (arith, eqb-false i n s)) (omega (arith, eqb-false j n t)) ei ej

-- what the head holds that was read: the month m and the closed days c
record Headed (S : List ℕ) (m c : ℕ) : Type 0 where
  kind : kind_at S 0 ≡ head_kind
  size : length_at S 0 ≡ head_size
  month : m ≡ (head_fields (body_at S 0)).month
  closed : c ≡ (head_fields (body_at S 0)).closed
  fields : head_ok (head_fields (body_at S 0)) ≡ true

-- directly after the head: the first record behind it starts at f, and of the n groups none was read
record Bare (f n : ℕ) : Type 0 where
  first : f ≡ head_size
  none : n ≡ 0

-- the constants in force, whether the schedule gives them or not: the groups start at f
record InForce (S : List ℕ) (f : ℕ) : Type 0 where
  first : f ≡ groups_from S
  size : has_constants S ≡ true → length_at S head_size ≡ constants_size
  lawful : is_lawful (rules_of S) ≡ true

-- what the records read so far hold
record Sound (S : List ℕ) (p : Cursor) : Type 0 where
  start : p.at ≡ 0 → (p.held.groups ≡ 0) × (p.held.firms ≡ 0)
  headed : 0 < p.at → Headed S p.held.month p.held.closed
  least : 0 < p.at → head_size ≤ p.at
  bare_head : p.at ≡ head_size → Bare p.held.first p.held.groups
  in_force : head_size < p.at → InForce S p.held.first
  starts : 0 < p.at → p.held.start ≡ group_start S p.held.first p.held.groups
  place : 0 < p.at → p.at ≡ firm_start p.held.start p.held.firms
  grouped : 0 < p.held.firms → 0 < p.held.groups
  groups : (i : ℕ) → i < p.held.groups → GroupStands S (group_start S p.held.first i)
  ranges : (i : ℕ) → i < p.held.groups → group_in_range (group_fields (body_at S (group_start S p.held.first i))) ≡ true
  firms : (i : ℕ) → i < p.held.firms → FirmStands S (firm_start p.held.start i)
  group_once : (C : List ℕ) → Once p.held.groups (group_is S p.held.first C)
  firm_once : (C : List ℕ) → Once p.held.firms (firm_is S p.held.start C)

sound_begin : (S : List ℕ) → Sound S begin
sound_begin S =
    record {
      start = λ q. (refl, refl);
      headed = λ h. absurd (omega arith);
      least = λ h. absurd (omega arith);
      bare_head = λ q. absurd (omega arith);
      in_force = λ h. absurd (omega arith);
      starts = λ h. absurd (omega arith);
      place = λ h. absurd (omega arith);
      grouped = λ h. absurd (omega arith);
      groups = λ i h. absurd (omega arith);
      ranges = λ i h. absurd (omega arith);
      firms = λ i h. absurd (omega arith);
      group_once = λ C i j h. absurd (omega arith);
      firm_once = λ C i j h. absurd (omega arith);
    }

-- the bytes of a body are those after length and kind
pub body_byte : (S : List ℕ) (at k : ℕ) → k + 4 < length_at S at → get_or (body_at S at) k 0 ≡ get_or (rest_at S at) k 0
body_byte S at k h = get_or-take (length_at S at - 4) (rest_at S at) k 0 (omega arith)

-- a group whose code is not listed before it has no other's code
new_group : (S : List ℕ) (l : Layout) → 5 < length_at S (group_start S l.first l.groups)
    → group_listed S l (group_fields (body_at S (group_start S l.first l.groups))).code ≡ false
    → (C : List ℕ) → group_is S l.first C l.groups ≡ true → (i : ℕ) → i < l.groups → group_is S l.first C i ≡ false
unfolding group_listed group_is group_fields
new_group S l long u C e i h =
    let at = group_start S l.first l.groups in
    let g = group_fields (body_at S at) in
    let same : g.code ≡ C = rw (body_byte S at 0 (omega arith), body_byte S at 1 (omega arith)) ((bytes_eq-Decides _ C).0 e) in
    subst (λ (D : List ℕ). group_is S l.first D i ≡ false) same (none_at l.groups (group_is S l.first g.code) u i h)

-- two codes of one firm are had by the same firms: both are its letters
codes_agree : (f g : Firm) (C D : List ℕ) → has_code f C ≡ true → has_code f D ≡ true → has_code g C ≡ has_code g D
unfolding has_code
codes_agree f g C D c d = rw (sym ((bytes_eq-Decides f.code C).0 c) ∙ (bytes_eq-Decides f.code D).0 d)

-- a firm has its body as a code
own_code : (S : List ℕ) (at : ℕ) → length_at S at ≡ firm_size → length (body_at S at) ≡ 3 → has_code (firm_fields (rest_at S at)) (body_at S at) ≡ true
unfolding has_code firm_fields
own_code S at seven e =
    let same : (k : ℕ) → k < 3 → eqb (get_or (rest_at S at) k 0) (get_or (body_at S at) k 0) ≡ true
    = λ k h. eq-eqb _ _ (sym (body_byte S at k (omega arith))) in
    code-letters _ _ _ (body_at S at) ∙ every _ (eq-eqb _ _ e, (same 0 (omega arith), (same 1 (omega arith), (same 2 (omega arith), tt))))

-- so a firm whose code is not listed before it has no other's code
module _ (S : List ℕ) (l : Layout) (seven : length_at S (firm_start l.start l.firms) ≡ firm_size) (inside : firm_start l.start l.firms + firm_size ≤ length S) where
  new_firm : firm_listed S l (body_at S (firm_start l.start l.firms)) ≡ false
      → (C : List ℕ) → firm_is S l.start C l.firms ≡ true → (i : ℕ) → i < l.firms → firm_is S l.start C i ≡ false
  unfolding firm_listed firm_is
  new_firm u C e i h =
      let at = firm_start l.start l.firms in
      let long : length (body_at S at) ≡ 3 = simp (length-take, length-drop) (omega arith) in
      codes_agree (firm_fields (rest_at S at)) _ C (body_at S at) e (own_code S at seven long) ∙ none_at l.firms _ u i h

-- a group's length says how many contracts it lists
module _ (S : List ℕ) (at : ℕ) (fits : length_at S at ≤ length S - at) (sized : length_ok kind.Group (length_at S at) ≡ true) where
  even : (least_group ≤ length_at S at) × (length_at S at ≤ largest_group) × (length_at S at % 2 ≡ 0)
  unfolding length_ok
  even =
      let r = range least_group largest_group (length_at S at) (first_so (within least_group largest_group (length_at S at)) (eqb (length_at S at % 2) 0) sized) in
      let e = eqb-true (length_at S at % 2) 0 (second_so (within least_group largest_group (length_at S at)) (eqb (length_at S at % 2) 0) sized) in
      (r.least, r.most, e)

  lists : length_at S at ≡ 16 + 2 * listed (body_at S at)
  unfolding listed
  lists = simp (length-take, length-drop) (omega (arith, even))

  lists_few : within 1 64 (listed (body_at S at)) ≡ true
  lists_few = is-within 1 64 (listed (body_at S at)) (omega (arith, lists, even)) (omega (arith, lists, even))

-- the lengths of a head, of constants and of a firm are one each
head-length : (len : ℕ) → length_ok kind.Head len ≡ true → len ≡ head_size
unfolding length_ok
head-length len e = eqb-true len head_size e

constants-length : (len : ℕ) → length_ok kind.Constants len ≡ true → len ≡ constants_size
unfolding length_ok
constants-length len e = eqb-true len constants_size e

firm_length : (len : ℕ) → length_ok kind.Firm len ≡ true → len ≡ firm_size
unfolding length_ok
firm_length len e = eqb-true len firm_size e

-- the constants that a schedule gives, and version 9.6's where a group stands directly after the head
given_constants : (S : List ℕ) (f : ℕ) → has_constants S ≡ true → f ≡ head_size + constants_size → length_at S head_size ≡ constants_size
    → in_range (constants_fields (body_at S head_size)) ≡ true → in_order (constants_fields (body_at S head_size)) ≡ true → InForce S f
unfolding rules_of
given_constants S f e q size ranged ordered =
    record { first = rw e q; size = λ h. size; lawful = rw (e, ranged, ordered) refl }

constants_of_96 : (S : List ℕ) (f : ℕ) → has_constants S ≡ false → f ≡ head_size → InForce S f
unfolding rules_of
constants_of_96 S f e q =
    record {
      first = rw e q;
      size = λ h. absurd (false≢true (sym e ∙ h));
      lawful = rw e lawful_sets.of_96;
    }

-- so the constants in force are known where a group stands at `at`
in_force_at : (S : List ℕ) (at f : ℕ) → kind_at S at ≡ group_kind → (at ≡ head_size → f ≡ head_size) → head_size ≤ at → (head_size < at → InForce S f)
    → InForce S f
in_force_at S at f number bare least s = by (eqb at head_size) refl
  where
    by : (b : Bool) → eqb at head_size ≡ b → InForce S f
    by true e =
        let q = eqb-true at head_size e in
        constants_of_96 S f (ne_eqb _ _ (λ h. let same : group_kind ≡ constants_kind = sym (rw q at number) ∙ h in omega arith)) (bare q)
    by false e = s (omega (arith, eqb-false at head_size e, least))

module _ (S : List ℕ) (p : Cursor) where
  sound_after : (k : Kind) → HasNumber k (kind_at S p.at) → is_due k p ≡ true → length_ok k (length_at S p.at) ≡ true
      → length_at S p.at ≤ length S - p.at → constants_in_range k (body_at S p.at) ≡ true → constants_in_order k (body_at S p.at) ≡ true
      → fields_ok k (body_at S p.at) ≡ true
      → is_repeated k S p.held (body_at S p.at) ≡ false → p.at < length S → Sound S p
      → Sound S (record { at = p.at + length_at S p.at; held = with_record k (body_at S p.at) (p.at + length_at S p.at) p.held })
  unfolding is_due constants_in_range constants_in_order fields_ok is_repeated with_record
  sound_after kind.Head number due sized fits ranged ordered fields once l s =
      let stands = eqb-true p.at 0 due in
      let ten = head-length (length_at S p.at) sized in
      let z = s.start stands in
      let origin : group_start S (p.at + length_at S p.at) p.held.groups ≡ p.at + length_at S p.at = rw z.0 (group-first S _) in
      record {
        start = λ q. absurd (omega arith);
        headed =
            λ h.
            record { kind = rw stands at number; size = rw stands at ten; month = rw stands; closed = rw stands; fields = rw stands at fields };
        least = λ h. omega arith;
        bare_head = λ q. record { first = q; none = z.0 };
        in_force = λ h. absurd (omega arith);
        starts = λ h. sym origin;
        place = λ h. omega arith;
        grouped = s.grouped;
        groups = λ i h. absurd (omega arith);
        ranges = λ i h. absurd (omega arith);
        firms = λ i h. absurd (omega arith);
        group_once = λ C i j h. absurd (omega arith);
        firm_once = λ C i j h. absurd (omega arith);
      }
  sound_after kind.Constants number due sized fits ranged ordered fields once l s =
      let stands = eqb-true p.at head_size due in
      let long = constants-length (length_at S p.at) sized in
      let bare = s.bare_head stands in
      let pos : 0 < p.at = omega arith in
      let none : p.held.firms ≡ 0 = let q : 0 < p.held.firms → ⊥ = λ h. omega (arith, s.grouped h, bare.none) in omega (arith, q) in
      let origin : group_start S (p.at + length_at S p.at) p.held.groups ≡ p.at + length_at S p.at = rw bare.none (group-first S _) in
      let given : has_constants S ≡ true = eq-eqb _ _ (rw stands at number) in
      record {
        start = λ q. absurd (omega arith);
        headed = λ h. s.headed pos;
        least = λ h. omega arith;
        bare_head = λ q. absurd (omega arith);
        in_force = λ h. given_constants S (p.at + length_at S p.at) given (omega arith) (rw stands at long) (rw stands at ranged) (rw stands at ordered);
        starts = λ h. sym origin;
        place = λ h. omega arith;
        grouped = s.grouped;
        groups = λ i h. absurd (omega (arith, bare.none));
        ranges = λ i h. absurd (omega (arith, bare.none));
        firms = λ i h. absurd (omega arith);
        group_once = λ C i j h. absurd (omega (arith, bare.none));
        firm_once = λ C i j h. absurd (omega arith);
      }
  sound_after kind.Group number due sized fits ranged ordered fields once l s =
      let apart = eqb-false p.at 0 (not-true _ (first_so (not (eqb p.at 0)) (eqb p.held.firms 0) due)) in
      let none = eqb-true p.held.firms 0 (second_so (not (eqb p.at 0)) (eqb p.held.firms 0) due) in
      let pos : 0 < p.at = omega (arith, apart) in
      let stands : p.at ≡ group_start S p.held.first p.held.groups = omega (arith, s.starts pos, s.place pos) in
      let on : p.at + length_at S p.at ≡ group_start S p.held.first (p.held.groups + 1) = rw (stands, group_next) in
      let ok = group_in_range (group_fields (body_at S p.at)) in
      let stand : GroupStands S p.at
      = record {
        kind = number;
        size = lists S p.at fits sized;
        contracts = lists_few S p.at fits sized;
        rising = second_so ok (contracts_ok (body_at S p.at)) fields;
      } in
      let long : 5 < length_at S p.at = omega (arith, even S p.at fits sized) in
      let fine : ok ≡ true = first_so ok (contracts_ok (body_at S p.at)) fields in
      record {
        start = λ q. absurd (omega arith);
        headed = λ h. s.headed pos;
        least = λ h. omega arith;
        bare_head = λ q. absurd (omega (arith, s.least pos));
        in_force = λ h. in_force_at S p.at p.held.first number (λ q. (s.bare_head q).first) (s.least pos) s.in_force;
        starts = λ h. on;
        place = λ h. omega arith;
        grouped = λ h. omega arith;
        groups = below_more _ _ s.groups (rw stands at stand);
        ranges = below_more _ _ s.ranges (rw stands at fine);
        firms = λ i h. absurd (omega arith);
        group_once = λ C. once_more p.held.groups (group_is S p.held.first C) (s.group_once C) (new_group S p.held (rw stands at long) (rw stands at once) C);
        firm_once = λ C i j h. absurd (omega arith);
      }
  sound_after kind.Firm number due sized fits ranged ordered fields once l s =
      let seven = firm_length (length_at S p.at) sized in
      let some = eqb-false p.held.groups 0 (not-true _ due) in
      let apart : p.at ≡ 0 → ⊥ = λ z. some (s.start z).0 in
      let pos : 0 < p.at = omega (arith, apart) in
      let behind : head_size < p.at = let q : p.at ≡ head_size → ⊥ = λ e. some (s.bare_head e).none in omega (arith, q, s.least pos) in
      let stands = s.place pos in
      let stand : FirmStands S p.at = record { kind = number; size = seven; letters = fields } in
      record {
        start = λ q. absurd (omega arith);
        headed = λ h. s.headed pos;
        least = λ h. omega arith;
        bare_head = λ q. absurd (omega (arith, s.least pos));
        in_force = λ h. s.in_force behind;
        starts = λ h. s.starts pos;
        place = λ h. omega arith;
        grouped = λ h. omega (arith, some);
        groups = s.groups;
        ranges = s.ranges;
        firms = below_more _ _ s.firms (rw stands at stand);
        group_once = s.group_once;
        firm_once = λ C. once_more p.held.firms (firm_is S p.held.start C) (s.firm_once C) (new_firm S p.held (rw stands at seven) (omega arith) (rw stands at once) C);
      }
  sound_after kind.Other number due sized fits ranged ordered fields once l s = absurd (false≢true due)

  sound_kept : p.at < length S → cause S p ≡ 0 → Sound S p → Sound S (after S p)
  sound_kept l z s =
      let t = taken S p z in
      sound_after (kind_here S p) (kind_number (kind_at S p.at)) t.due t.sized t.fits t.ranged t.ordered t.fields t.new l s

fine_begin : (S : List ℕ) → Fine S begin
fine_begin S = record { inside = omega arith; groups = omega arith; firms = omega arith; near = omega arith }

pub good-schedule : (S : List ℕ) {l : Layout} → check_of S ≡ good l → GoodSchedule S l
good-schedule S {l} e =
    let q = good_end S (λ p. Fine S p × Sound S p) (λ p h z k. ((accepted S p h z k.0).0, sound_kept S p h z k.1)) (fine_begin S, sound_begin S) e in
    let f = q.kept.0 in
    let s = q.kept.1 in
    let r = ending-good S q.place.held l q.layout in
    let some : 0 < q.place.held.firms = omega (arith, r.1) in
    let pos : 0 < q.place.at = let apart : q.place.at ≡ 0 → ⊥ = λ z. r.1 (s.start z).1 in omega (arith, apart) in
    let h = s.headed pos in
    let behind : head_size < q.place.at
    = let apart : q.place.at ≡ head_size → ⊥ = λ z. omega (arith, s.grouped some, (s.bare_head z).none) in omega (arith, apart, s.least pos) in
    let c = s.in_force behind in
    rw (← r.0)
    (record {
      some_group = s.grouped some;
      few_groups = f.groups;
      some_firm = some;
      few_firms = f.firms;
      head_first = h.kind;
      head_length = h.size;
      first = c.first;
      starts = s.starts pos;
      ends = omega (arith, s.place pos, f.inside, q.over);
      short = omega (arith, f.near, f.groups, f.firms, q.over);
      constants = c.size;
      lawful = c.lawful;
      month = h.month;
      closed = h.closed;
      head = h.fields;
      groups = s.groups;
      ranges = s.ranges;
      firms = s.firms;
      group_once = s.group_once;
      firm_once = s.firm_once;
    })

-- a cause is one of the numbers, or 0
abbrev known : ℕ → ℕ
known n = cond (eqb n 0 || is_cause n) 0 1

cause_known : (S : List ℕ) (p : Cursor) → known (cause S p) ≤ 0
unfolding cause
cause_known S p = choose_most known 0 (header_causes S p ++ body_causes S p) refl (omega arith)

of_cause : {k : ℕ} (n : ℕ) → known n ≤ 0 → (n ≡ 0 → ⊥) → n ≡ k → is_cause k ≡ true
of_cause {k} n h z q = by (is_cause n) refl
  where
    by : (b : Bool) → is_cause n ≡ b → is_cause k ≡ true
    by true e = rw (← q) e
    by false e = absurd (omega (arith, rw (ne_eqb n 0 z, e) at h))

-- a refusal of the scan has one of them: the fuel lasts to the end
module _ (S : List ℕ) {k o : ℕ} where
  numbered_end : (l : Layout) → ending S l ≡ refused k o → is_cause k ≡ true
  unfolding ending
  numbered_end l e = by (eqb l.firms 0) e
    where
      by : (b : Bool) → cond b (refused 4 (length S)) (good l) ≡ refused k o → is_cause k ≡ true
      by true f = let q : 4 ≡ k = cc in rw (← q) refl
      by false f = absurd (refused-good (sym f))

  numbered_scan : (n : ℕ) (p : Cursor) → length S - p.at < n → Fine S p → scan S n p ≡ refused k o → is_cause k ≡ true
  numbered_scan zero p h fine e = absurd (omega arith)
  numbered_scan (suc n) p h fine e = by (leb (length S) p.at) (eqb (cause S p) 0) refl refl (λ a f g. numbered_scan n (after S p) a f g)
    where
      by : (a b : Bool) → leb (length S) p.at ≡ a → eqb (cause S p) 0 ≡ b
          → (length S - (after S p).at < n → Fine S (after S p) → scan S n (after S p) ≡ refused k o → is_cause k ≡ true) → is_cause k ≡ true
      by true b s t rest = numbered_end p.held (sym (scan_end S p (suc n) (omega arith) (leb-true _ _ s)) ∙ e)
      by false true s t rest =
          let z = eqb-true (cause S p) 0 t in
          let on = accepted S p (leb-false _ _ s) z fine in
          let q : suc n - 1 ≡ n = omega arith in
          rest (omega (arith, on, leb-false (length S) p.at s)) on.0 (rw q at (sym (scan_next S p (suc n) (omega arith) (leb-false _ _ s) z)) ∙ e)
      by false false s t rest =
          let z = eqb-false (cause S p) 0 t in
          let q : cause S p ≡ k = let r = sym (scan_refused S p (suc n) (omega arith) (leb-false _ _ s) z) ∙ e in cc in
          of_cause (cause S p) (cause_known S p) z q

pub numbered : (S : List ℕ) → Numbered S
unfolding check_of
numbered S n o e = numbered_scan S (length S + 1) begin (omega arith) (fine_begin S) e
