-- A statement that is written shows the month that the reason is of. Line k is that of the violation before which k stand, and tells its place: its day, and
-- its group by the code, since no code is repeated. So a line for the day and group is that of their place, and has its mark; and a group or day that the
-- schedule doesn't know has no line.
use Prim.Native.Nat.{ℕ, ◌+◌, ◌*◌, ◌<◌}
use mathlib.Core.Bool.{Bool, true, false, cond, not, ◌&&◌, false≢true, not-not}
use mathlib.Core.List.{List, [], ◌∷◌, ◌++◌}
use mathlib.Core.Path.{◌≡◌, refl, sym, ap, ap₂, subst, ◌∙◌}
use native.Mathlib.Omega.{arith}
use lib.Dec.{eqb, ltb}
use lib.ListN.{length, drop}
use borrow.Author.Tests.{eqb-true, eq-eqb, ltb-true, not-false}
use Rattle.std.specs.Cmp.{first_so, second_so}
use Rattle.std.proofs.lemmas.Slice.Eq.{bytes_eq-Decides}
use Rattle.wire.specs.Choose.{choose, within}
use Rattle.wire.specs.Lists.{over}
use Rattle.wire.specs.Sums.{count}
use Rattle.wire.proofs.Bools.{never}
use Rattle.wire.proofs.Choose.{some_at, none_some, sought}
use Rattle.wire.proofs.Counts.{Numbered, numbered, count_before, count_order}
use Rattle.calendar.specs.Calendar.{has_day, in_effect}
use Rattle.rules.specs.Verdict.{is_violation}
use Rattle.rules.specs.Marks.{places, day_of, group_of, Judged, mark}
use Rattle.rules.proofs.Marks.{on_place, mark-none}
use Rattle.records.specs.Fields.{group_fields}
use Rattle.refusals.specs.Outcome.{Outcome, refused, good, follow}
use Rattle.lookup.specs.Lookup.{group_at, group_is, group_listed, group_place}
use Rattle.lookup.specs.InForce.{rules_of}
use Rattle.lookup.specs.declared.Layout.{Layout}
use Rattle.schedule.specs.Check.{check_of}
use Rattle.refusals.proofs.Outcomes.{refused-good}
use Rattle.schedule.proofs.Good.{good-schedule}
use Rattle.schedule.proofs.Found.{group-own, rules-dollars}
use Rattle.book.proofs.Checked.{sized}
use Rattle.grants.specs.Month.{granted_month, granted_answer}
use Rattle.grants.proofs.Answers.{granted-book}
use Rattle.statement.specs.Layout.{line_size, both_totals, line_day, line_mark}
use Rattle.statement.specs.Statement.{statement_bytes, need, statement_answer, statement_output}
use Rattle.statement.proofs.Shown.{two_letters, bytes-length}
use Rattle.reason.specs.Beside.{Reason}
use Rattle.reason.specs.Reason.{reason_answer}
use Rattle.reason.specs.Taken.{missing, TwoTaken, OneTaken, NoneTaken}
use Rattle.reason.specs.Laws.{PlaceIs, is_waiver as place_waiver, day_and_code, BilledIs, IsTrue}
use Rattle.reason.proofs.Laws.{laws}
use Rattle.guarantee.specs.Demand3.{layout}
use Rattle.guarantee.specs.EachLine.{LineIs}
use Rattle.guarantee.specs.OwnMark.{is_waiver, named, line_code, is_for, grouping_of, lines_in, line_of, has_line, WaiverLines, Agrees, Own, OwnMark}
use Rattle.guarantee.proofs.EachLine.{line_read}

-- a statement that is written shows the month of what the schedule holds
record WrittenAs (S B C G out : List ℕ) (l : Layout) (n : ℕ) : Type 0 where
  size : length (statement_bytes S l (granted_month S B C G l)) ≡ n
  output : statement_output S B C G out ≡ over (statement_bytes S l (granted_month S B C G l)) out

module _ (S B C G out : List ℕ) {l : Layout} {n : ℕ} (q : granted_answer S B C G ≡ good l) where
  by_room : (b : Bool) → ltb (length out) (need (granted_month S B C G l)) ≡ b
      → cond b (refused 23 0) (good (length (statement_bytes S l (granted_month S B C G l)))) ≡ good n → WrittenAs S B C G out l n
  by_room true z e = absurd (refused-good e)
  by_room false z e = record { size = cc; output = rw (q, z) refl }

  written-as : statement_answer S B C G out ≡ good n → WrittenAs S B C G out l n
  written-as e = by_room (ltb (length out) (need (granted_month S B C G l))) refl (rw q at e)

-- the place of a listed group, found by its own code
module _ (S : List ℕ) {l : Layout} (e : check_of S ≡ good l) where
  code_long : (g : ℕ) → length (group_at S l g).code ≡ 2
  unfolding group_fields
  code_long g = refl

  module _ (code : List ℕ) (g : ℕ) (h : g < l.groups) (is : (group_at S l g).code ≡ code) where
    has_code : group_is S l.first code g ≡ true
    has_code = subst (λ (D : List ℕ). group_is S l.first D g ≡ true) is (group-own S e g h)

    is-listed : group_listed S l code ≡ true
    unfolding group_listed
    is-listed = some_at l.groups (group_is S l.first code) g h has_code

    is-place : group_place S l code ≡ g
    unfolding group_listed
    is-place =
        let below : group_place S l code < l.groups = ltb-true _ _ is-listed in
        (good-schedule S e).group_once code (group_place S l code) g below h
        ((sought l.groups (group_is S l.first code)).found (omega (arith, below))) has_code

    grouping-is : grouping_of S code ≡ (group_at S l g).grouping
    grouping-is =
        let held : layout S ≡ l = rw e refl in
        ap (λ (x : Layout). (group_at S x (group_place S x code)).grouping) held ∙ ap (λ (k : ℕ). (group_at S l k).grouping) is-place

-- the lines of a written statement
module _ (S B C G out : List ℕ) {l : Layout} {n : ℕ} (q : granted_answer S B C G ≡ good l) (w : WrittenAs S B C G out l n) where
  abbrev j : Judged
  j = granted_month S B C G l

  abbrev fails : (i : ℕ) → Bool
  fails i = is_violation (j.verdict i).code

  abbrev number : (i : ℕ) → ℕ
  number i = count i fails

  abbrev O : List ℕ
  O = statement_output S B C G out

  abbrev line_at : (k : ℕ) → List ℕ
  line_at = line_of O

  abbrev so_many : ℕ
  so_many = lines_in n

  checked : check_of S ≡ good l
  checked = (sized S (length B) (granted-book S B C G q)).schedule

  lines-are : so_many ≡ number places
  lines-are =
      let size : n ≡ line_size * number places + both_totals = sym w.size ∙ bytes-length S l j in
      omega (arith, size)

  -- the line of a violation
  read : (i : ℕ) → i < places → fails i ≡ true → LineIs (rules_of S) (line_at (number i)) (day_of i) (group_at S l (group_of i)) (mark (rules_of S) j i) (j.verdict i)
  read i h v = rw w.output (line_read S l (rules-dollars S checked) j i h v (drop (length (statement_bytes S l j)) out))

  on : (i : ℕ) → fails i ≡ true → (ltb (group_of i) l.groups && in_effect l.month l.closed (day_of i)) ≡ true
  on i v = on_place is_violation refl _ _ v

  below : (i : ℕ) → fails i ≡ true → group_of i < l.groups
  below i v = ltb-true (group_of i) l.groups (first_so (ltb (group_of i) l.groups) _ (on i v))

  days : (i : ℕ) → fails i ≡ true → has_day l.month (day_of i) ≡ true
  days i v = first_so (has_day l.month (day_of i)) _ (second_so (ltb (group_of i) l.groups) _ (on i v))

  code-is : (i : ℕ) → i < places → fails i ≡ true → line_code (line_at (number i)) ≡ (group_at S l (group_of i)).code
  code-is i h v =
      let r = read i h v in
      ap₂ (λ (x y : ℕ). x ∷ y ∷ []) r.first r.second ∙ sym (two_letters (group_at S l (group_of i)).code (code_long S checked (group_of i)))

  -- its exchange grouping is that of its line's group code
  grouping-of : (i : ℕ) → i < places → fails i ≡ true → grouping_of S (line_code (line_at (number i))) ≡ j.grouping i
  grouping-of i h v = grouping-is S checked (line_code (line_at (number i))) (group_of i) (below i v) (sym (code-is i h v))

  -- the violation whose line is line k
  module _ (k : ℕ) (h : k < so_many) where
    place : (i : ℕ) × Numbered places fails k i
    place = numbered places fails k (rw lines-are at h)

  module _ (day : ℕ) (code : List ℕ) where
    -- what a line for the day and group tells of its place
    record Tells (k : ℕ) : Type 0 where
      i : ℕ
      at : Numbered places fails k i
      day_is : day_of i ≡ day
      code_is : (group_at S l (group_of i)).code ≡ code

    tells : (k : ℕ) → is_for day code (line_at k) ≡ true → (i : ℕ) × Numbered places fails k i → Tells k
    tells k t (i, m) =
        let t' : is_for day code (line_at (number i)) ≡ true = subst (λ (x : ℕ). is_for day code (line_at x) ≡ true) (sym m.number) t in
        record {
          i = i;
          at = m;
          day_is = sym (read i m.inside m.holds).day_is ∙ eqb-true _ _ (first_so (eqb (line_day (line_at (number i))) day) _ t');
          code_is =
              sym (code-is i m.inside m.holds)
              ∙ (bytes_eq-Decides (line_code (line_at (number i))) code).0 (second_so (eqb (line_day (line_at (number i))) day) _ t');
        }

    told : (k : ℕ) → k < so_many → is_for day code (line_at k) ≡ true → Tells k
    told k h t = tells k t (place k h)

    -- a group or a day that the schedule doesn't know has no line
    known : (k : ℕ) → Tells k → (group_listed S l code ≡ true) × (has_day l.month day ≡ true)
    known k t = (
      is-listed S checked code (group_of t.i) (below t.i t.at.holds) t.code_is,
      subst (λ (d : ℕ). has_day l.month d ≡ true) t.day_is (days t.i t.at.holds),
    )

    no-line : ((group_listed S l code ≡ true) × (has_day l.month day ≡ true) → ⊥) → has_line O n day code ≡ false
    no-line z = none_some so_many (λ k. is_for day code (line_at k)) (λ k h. never _ (λ t. z (known k (told k h t))))

    module _ (p : ℕ) (at : PlaceIs S l day code p) where
      -- a line for the day and group is that of their place
      its_place : (k : ℕ) (t : Tells k) → t.i ≡ p
      its_place k t =
          let here = is-place S checked code (group_of t.i) (below t.i t.at.holds) t.code_is in
          let there = is-place S checked code (group_of p) at.listed at.code_is in
          omega (arith, t.day_is, at.day_is, here, there)

      -- and the place's line is for them
      own_line : fails p ≡ true → is_for day code (line_at (number p)) ≡ true
      own_line v =
          let d : line_day (line_at (number p)) ≡ day = (read p at.inside v).day_is ∙ at.day_is in
          rw (eq-eqb _ _ d) ((bytes_eq-Decides (line_code (line_at (number p))) code).1 (code-is p at.inside v ∙ at.code_is))

      marked : (k : ℕ) → Tells k → line_mark (line_at k) ≡ mark (rules_of S) j p
      marked k t =
          let same = its_place k t in
          rw (← t.at.number, ← same) (read t.i t.at.inside t.at.holds).mark_is

      has-line : has_line O n day code ≡ fails p
      has-line = go (fails p) refl
        where
          go : (b : Bool) → fails p ≡ b → has_line O n day code ≡ b
          go true v =
              some_at so_many (λ k. is_for day code (line_at k)) (number p) (rw lines-are (count_before places fails p at.inside v)) (own_line v)
          go false v =
              none_some so_many (λ k. is_for day code (line_at k))
              (λ k h. never _ (λ t. let d = told k h t in false≢true (sym v ∙ subst (λ (i : ℕ). fails i ≡ true) (its_place k d) d.at.holds)))

-- a reason of its month agrees with it
module _ (S B C G out : List ℕ) (day : ℕ) (code : List ℕ) {n : ℕ} {r : Reason} (e : statement_answer S B C G out ≡ good n) (is : IsTrue S B C day code G r) where
  abbrev J : Judged
  J = granted_month S B C G is.l

  written : WrittenAs S B C G out is.l n
  written = written-as S B C G out is.holds e

  abbrev fails_at : (i : ℕ) → Bool
  fails_at i = is_violation (J.verdict i).code

  abbrev its_number : (i : ℕ) → ℕ
  its_number i = count i fails_at

  is_marked : not (eqb r.mark 0) ≡ fails_at is.i
  is_marked = ap (λ (m : ℕ). not (eqb m 0)) is.mark_is ∙ ap not (mark-none (rules_of S) J is.i) ∙ not-not (fails_at is.i)

  -- a place with a mark is a violation
  is-violation : (i m : ℕ) → mark (rules_of S) J i ≡ m → eqb m 0 ≡ false → fails_at i ≡ true
  is-violation i m q z = not-false (fails_at i) (sym (mark-none (rules_of S) J i) ∙ ap (λ (k : ℕ). eqb k 0) q ∙ z)

  module _ (m : r.mark ≡ 2) where
    b : BilledIs S B C G is.l is.i r.values
    b = is.billed m

    own : fails_at is.i ≡ true
    own = is-violation is.i 2 (sym is.mark_is ∙ m) refl

    -- the grouping of the group with the code
    own-grouping : grouping_of S code ≡ J.grouping is.i
    own-grouping = grouping-is S (checked S B C G out is.holds written) code (group_of is.i) is.place.listed is.place.code_is

    grouping : (i : ℕ) → i < places → fails_at i ≡ true
        → grouping_of S (line_code (line_of (statement_output S B C G out) (its_number i))) ≡ J.grouping i
    grouping = grouping-of S B C G out is.holds written

    shows : (i : ℕ) → i < places → fails_at i ≡ true
        → LineIs (rules_of S) (line_of (statement_output S B C G out) (its_number i)) (day_of i) (group_at S is.l (group_of i)) (mark (rules_of S) J i) (J.verdict i)
    shows = read S B C G out is.holds written

    codes : (i : ℕ) → i < places → fails_at i ≡ true
        → line_code (line_of (statement_output S B C G out) (its_number i)) ≡ (group_at S is.l (group_of i)).code
    codes = code-is S B C G out is.holds written

    -- a line names its place's day and group code
    names : (i : ℕ) → i < places → fails_at i ≡ true
        → line_day (line_of (statement_output S B C G out) (its_number i)) ∷ line_code (line_of (statement_output S B C G out) (its_number i))
        ≡ day_of i ∷ (group_at S is.l (group_of i)).code
    names i h v = ap₂ (λ (d : ℕ) (c : List ℕ). d ∷ c) (shows i h v).day_is (codes i h v)

    -- an automatic line of the grouping at a place, and at a line
    abbrev at_place : (i : ℕ) → Type 0
    at_place i = place_waiver S B C G is.l is.i i

    abbrev at_line : (k : ℕ) → Type 0
    at_line k = is_waiver S (statement_output S B C G out) n day code k

    fails-there : (i : ℕ) → at_place i → fails_at i ≡ true
    fails-there i w = is-violation i 4 w.1 refl

    to_line : (i : ℕ) → i < places → at_place i → at_line (its_number i)
    to_line i h w =
        let v = fails-there i w in
        ((shows i h v).mark_is ∙ w.1, grouping i h v ∙ w.0 ∙ sym own-grouping)

    -- the place of an automatic line
    from_line : (k : ℕ) → at_line k → (i : ℕ) → Numbered places fails_at k i → at_place i
    from_line k is4 i at = (
      sym (grouping i at.inside at.holds)
          ∙ ap (λ (x : ℕ). grouping_of S (line_code (line_of (statement_output S B C G out) x))) at.number ∙ is4.1 ∙ own-grouping,
      sym (shows i at.inside at.holds).mark_is ∙ ap (λ (x : ℕ). line_mark (line_of (statement_output S B C G out) x)) at.number ∙ is4.0,
    )

    abbrev code_at : (k : ℕ) → List ℕ
    code_at = named S (statement_output S B C G out) n day code

    named-at : (i : ℕ) → i < places → at_place i → code_at (its_number i) ≡ day_of i ∷ (group_at S is.l (group_of i)).code
    named-at i h w = names i h (fails-there i w)

    abbrev L : ℕ
    L = lines_in n

    its-place : (k : ℕ) → k < L → (i : ℕ) × Numbered places fails_at k i
    its-place k l = place S B C G out is.holds written k l

    module _ (shown : List ℕ) where
      two-lines : TwoTaken places is.i at_place (day_and_code S B C G is.l) shown
          → TwoTaken L (its_number is.i) at_line code_at shown
      two-lines t =
          let in_b : t.b < places = omega (arith, t.before, is.place.inside) in
          let in_a : t.a < places = omega (arith, t.earlier, in_b) in
          record {
            a = its_number t.a;
            b = its_number t.b;
            codes = t.codes ∙ sym (ap₂ (λ (xs ys : List ℕ). xs ++ ys) (named-at t.a in_a t.first) (named-at t.b in_b t.second));
            first = to_line t.a in_a t.first;
            second = to_line t.b in_b t.second;
            earlier = count_before t.b fails_at t.a t.earlier (fails-there t.a t.first);
            before = count_before is.i fails_at t.b t.before (fails-there t.b t.second);
            no_other =
                λ k h l w.
                let (i, at) = its-place k l in
                let later : its_number t.a < its_number i = rw at.number h in
                sym at.number ∙ ap its_number (t.no_other i (count_order fails_at t.a i later) at.inside (from_line k w i at));
          }

      one-line : OneTaken places is.i at_place (day_and_code S B C G is.l) shown
          → OneTaken L (its_number is.i) at_line code_at shown
      one-line t =
          let in_a : t.a < places = omega (arith, t.before, is.place.inside) in
          record {
            a = its_number t.a;
            codes = t.codes ∙ sym (ap (λ (xs : List ℕ). xs ++ missing) (named-at t.a in_a t.first));
            first = to_line t.a in_a t.first;
            before = count_before is.i fails_at t.a t.before (fails-there t.a t.first);
            no_other = λ k l w. let (i, at) = its-place k l in sym at.number ∙ ap its_number (t.no_other i at.inside (from_line k w i at));
          }

      no-lines : NoneTaken places is.i at_place (day_and_code S B C G is.l) shown
          → NoneTaken L (its_number is.i) at_line code_at shown
      no-lines t =
          record { codes = t.codes; no_other = λ k l w. let (i, at) = its-place k l in t.no_other i at.inside (from_line k w i at) }

    waiver-lines : WaiverLines S (statement_output S B C G out) n day code r.values
    waiver-lines =
        let same : drop 4 r.values ≡ b.waivers = ap (drop 4) b.shown in
        record {
          k = its_number is.i;
          own = own_line S B C G out is.holds written day code is.i is.place own;
          inside = rw (lines-are S B C G out is.holds written) (count_before places fails_at is.i is.place.inside own);
          taken =
              rw same
              (record {
                two = λ h. two-lines b.waivers (b.taken.two h);
                one = λ h. one-line b.waivers (b.taken.one h);
                none = λ h. no-lines b.waivers (b.taken.none h);
              });
        }

  agrees : Agrees S (statement_output S B C G out) n day code r
  agrees =
      record {
        violation = has-line S B C G out is.holds written day code is.i is.place ∙ sym is_marked;
        own_mark = λ k h t.
            marked S B C G out is.holds written day code is.i is.place k (told S B C G out is.holds written day code k h t) ∙ sym is.mark_is;
        waivers = waiver-lines;
      }

-- a written statement is of a month that was judged
judged-month : (S B C G out : List ℕ) {n : ℕ} → statement_answer S B C G out ≡ good n → (l : Layout) × (granted_answer S B C G ≡ good l)
judged-month S B C G out {n} e = go (granted_answer S B C G) refl e
  where
    go : (x : Outcome Layout) → granted_answer S B C G ≡ x
        → follow x (λ l. cond (ltb (length out) (need (granted_month S B C G l))) (refused 23 0) (good (length (statement_bytes S l (granted_month S B C G l))))) ≡ good n
        → (l : Layout) × (granted_answer S B C G ≡ good l)
    go (refused m o) q w = absurd (refused-good w)
    go (good l) q w = (l, q)

-- what a refused reason tells, where the statement is written
module _ (S B C G out : List ℕ) (day : ℕ) (code : List ℕ) {n : ℕ} (e : statement_answer S B C G out ≡ good n) {l : Layout} (q : granted_answer S B C G ≡ good l) where
  abbrev asked_of : Bool → Bool → ℕ
  asked_of x y = choose ((not x, 15) ∷ (not y, 16) ∷ []) 0

  -- 15 or 16, of a group or day that is unknown
  unknown : (x y : Bool) (r : Reason) (m o : ℕ) → cond (eqb (asked_of x y) 0) (good r) (refused (asked_of x y) 0) ≡ refused m o
      → (within 15 16 m ≡ true) × ((x ≡ true) × (y ≡ true) → ⊥)
  unfolding choose
  unknown false y r m o w = let z : ◌≡◌ {A = ℕ} 15 m = cc in (rw (← z) refl, λ h. false≢true h.0)
  unknown true false r m o w = let z : ◌≡◌ {A = ℕ} 16 m = cc in (rw (← z) refl, λ h. false≢true h.1)
  unknown true true r m o w = absurd (refused-good (sym w))

  refused-own : (m o : ℕ) → reason_answer S B C day code G ≡ refused m o → (within 15 16 m ≡ true) × (has_line (statement_output S B C G out) n day code ≡ false)
  unfolding reason_answer
  refused-own m o w =
      let u = unknown (group_listed S l code) (has_day l.month day) _ m o (rw (granted-book S B C G q, q) at w) in
      (u.0, no-line S B C G out q (written-as S B C G out q e) day code u.1)

pub own_mark : (S B C G out : List ℕ) (day : ℕ) (code : List ℕ) → OwnMark S B C G out day code
own_mark S B C G out day code n e = go (reason_answer S B C day code G) refl
  where
    go : (x : Outcome Reason) → reason_answer S B C day code G ≡ x → Own S (statement_output S B C G out) n day code x
    go (good r) w = agrees S B C G out day code e (laws S B C day code G r w)
    go (refused m o) w = let (l, q) = judged-month S B C G out e in refused-own S B C G out day code e q m o w
