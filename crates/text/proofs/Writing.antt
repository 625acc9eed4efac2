-- Laws of writing: an output keeps its length, what is written stands within it, and one text after another is their sum.
use Prim.Native.Nat.{ℕ, ◌+◌, ◌-◌, ◌≤◌, min}
use mathlib.Core.Bool.{Bool, true, false, ◌&&◌, and-true, and_assoc}
use mathlib.Core.List.{List, [], ◌++◌, append_assoc, append-nil}
use mathlib.Core.Path.{◌≡◌, refl, sym, ap, ap₂, ◌∙◌}
use native.Mathlib.Nat.{le_refl, min-le_left, min-le_right, min-eq_right, min-zero, add_assoc, add-zero}
use native.Mathlib.Omega.{arith}
use lib.Dec.{leb, eqb}
use lib.ListN.{length, take, drop, length-append}
use lib.Seq.{paste, paste-zero, length-paste, take-paste, drop-paste, drop-drop, take_all, take-append-add, take-append-le}
use borrow.Author.Tests.{leb-true, leb-false, eqb-true, eqb-false, eq-eqb, ne_eqb}
use Rattle.wire.specs.Lists.{joined}
use Rattle.wire.proofs.Lists.{joined-none, joined_more}
use Rattle.text.specs.declared.Output.{Output}
use Rattle.text.specs.Text.{room, Wrote}

-- what there is room for of two texts: of the first, then of the second what is left; where the first is cut, the second has no room
room_both : (a : ℕ) (T U : List ℕ) → min a (length (T ++ U)) ≡ min a (length T) + min (a - min a (length T)) (length U)
room_both a T U = simp length-append (omega arith)

-- two texts have room where the first has, and then the second
whole-both : (a t u : ℕ) → (eqb (min a t) t && eqb (min (a - min a t) u) u) ≡ eqb (min a (t + u)) (t + u)
whole-both a t u = go (eqb (min a t) t) (eqb (min (a - min a t) u) u) refl refl
  where
    go : (b d : Bool) → eqb (min a t) t ≡ b → eqb (min (a - min a t) u) u ≡ d → (b && d) ≡ eqb (min a (t + u)) (t + u)
    go true true e f =
        let first = eqb-true (min a t) t e in
        let second = eqb-true (min (a - min a t) u) u f in
        sym (eq-eqb (min a (t + u)) (t + u) (omega arith))
    go true false e f =
        let first = eqb-true (min a t) t e in
        sym (ne_eqb (min a (t + u)) (t + u) (λ (h : min a (t + u) ≡ t + u). eqb-false (min (a - min a t) u) u f (omega arith)))
    go false d e f = sym (ne_eqb (min a (t + u)) (t + u) (λ (h : min a (t + u) ≡ t + u). eqb-false (min a t) t e (omega arith)))

-- what is written of two texts
take-both : (a : ℕ) (T U : List ℕ)
    → take (min a (length (T ++ U))) (T ++ U) ≡ take (min a (length T)) T ++ take (min (a - min a (length T)) (length U)) U
take-both a T U = go (leb (length T) a) refl
  where
    go : (b : Bool) → leb (length T) a ≡ b
        → take (min a (length (T ++ U))) (T ++ U) ≡ take (min a (length T)) T ++ take (min (a - min a (length T)) (length U)) U
    go true e =
        let n-is : min a (length T) ≡ length T = min-eq_right (leb-true (length T) a e) in
        rw (room_both a T U, n-is, take-append-add, take_all (length T) T (le_refl _))
    go false e =
        let l = leb-false (length T) a e in
        let whole : min a (length (T ++ U)) ≡ a = simp length-append (omega arith) in
        let n-is : min a (length T) ≡ a = omega arith in
        let m-is : min (a - min a (length T)) (length U) ≡ 0 = omega arith in
        rw (m-is, whole, n-is, append-nil) (take-append-le a T U (omega arith))

-- past the output's end nothing is written
paste_past : (O : List ℕ) (at : ℕ) (T : List ℕ) → length O ≤ at → paste O at T (room O at T) ≡ O
paste_past O at T h =
    let none : room O at T ≡ 0 = omega arith in
    ap (paste O at T) none ∙ sym (paste-zero O at T)

-- an output keeps its length
pub written_length : (O : List ℕ) (at : ℕ) (T : List ℕ) → length (paste O at T (room O at T)) ≡ length O
written_length O at T = go (leb at (length O)) refl
  where
    go : (b : Bool) → leb at (length O) ≡ b → length (paste O at T (room O at T)) ≡ length O
    go true e =
        let h = leb-true at (length O) e in
        length-paste O at T (room O at T) (omega (arith, min-le_left (length O - at) (length T))) (min-le_right (length O - at) (length T))
    go false e = ap length (paste_past O at T (omega (arith, leb-false at (length O) e)))

-- one text, then another: the output O, from the place `at` on
module _ (O : List ℕ) (at : ℕ) (T U : List ℕ) where
  -- the output after the first, and the place after it
  abbrev O' : List ℕ
  O' = paste O at T (room O at T)

  abbrev r : ℕ
  r = at + room O at T

  room_rest : room O' r U ≡ min (length O - at - room O at T) (length U)
  room_rest = omega (arith, written_length O at T)

  room_then : at + room O at (T ++ U) ≡ r + room O' r U
  room_then =
      ap (λ (k : ℕ). at + k) (room_both (length O - at) T U ∙ ap (λ (k : ℕ). room O at T + k) (sym room_rest))
      ∙ sym (add_assoc at (room O at T) (room O' r U))

  whole_then : (eqb (room O at T) (length T) && eqb (room O' r U) (length U)) ≡ eqb (room O at (T ++ U)) (length (T ++ U))
  whole_then = rw (room_rest, length-append) (whole-both (length O - at) (length T) (length U))

  inside : at ≤ length O → paste O' r U (room O' r U) ≡ paste O at (T ++ U) (room O at (T ++ U))
  inside h =
      ap₂ (λ x y. x ++ take m U ++ y) front (sym (drop-drop m r O') ∙ ap (drop m) back ∙ drop-drop m r O)
      ∙ ap₂ (λ x (k : ℕ). x ++ drop k O) (append_assoc (take at O) (take (room O at T) T) (take m U)) (sym room_then)
      ∙ ap (λ x. take at O ++ x ++ drop (at + room O at (T ++ U)) O) texts
    where
      m : ℕ
      m = room O' r U

      front : take r O' ≡ take at O ++ take (room O at T) T
      front = take-paste O at T (room O at T) h (min-le_right (length O - at) (length T))

      back : drop r O' ≡ drop r O
      back = drop-paste O at T (room O at T) h (min-le_right (length O - at) (length T))

      texts : take (room O at T) T ++ take m U ≡ take (room O at (T ++ U)) (T ++ U)
      texts = ap (λ (k : ℕ). take (room O at T) T ++ take k U) room_rest ∙ sym (take-both (length O - at) T U)

  paste_then : paste O' r U (room O' r U) ≡ paste O at (T ++ U) (room O at (T ++ U))
  paste_then = go (leb at (length O)) refl
    where
      go : (b : Bool) → leb at (length O) ≡ b → paste O' r U (room O' r U) ≡ paste O at (T ++ U) (room O at (T ++ U))
      go true e = inside (leb-true at (length O) e)
      go false e =
          let past : length O ≤ at = omega (arith, leb-false at (length O) e) in
          paste_past O' r U (omega (arith, written_length O at T)) ∙ paste_past O at T past ∙ sym (paste_past O at (T ++ U) past)

infixl 40 ◌then◌
-- one text, then another
pub ◌then◌ : {p : Output} {T : List ℕ} {r : Output} {U : List ℕ} {s : Output} → Wrote p T r → Wrote r U s → Wrote p (T ++ U) s
◌then◌ {p} {T} {U = U} w v =
    record {
      same_reference = v.same_reference ∙ w.same_reference;
      next = (rw (w.output, w.next) at v.next) ∙ sym (room_then p.bytes.now p.at T U);
      whole =
          (rw (w.output, w.next, w.whole) at v.whole)
          ∙ and_assoc p.whole _ _
          ∙ ap (λ (b : Bool). p.whole && b) (whole_then p.bytes.now p.at T U);
      output = (rw (w.output, w.next) at v.output) ∙ paste_then p.bytes.now p.at T U;
    }

-- writing nothing
pub wrote_none : (p : Output) → Wrote p [] p
wrote_none p =
    let z : min (length p.bytes.now - p.at) 0 ≡ 0 = min-zero (length p.bytes.now - p.at) in
    record {
      same_reference = refl;
      next = rw z (sym (add-zero p.at));
      whole = rw z (sym (and-true p.whole));
      output = rw z (paste-zero p.bytes.now p.at []);
    }

-- texts that are joined place by place: none, and one more
pub wrote_first : (f : ℕ → List ℕ) (p : Output) → Wrote p (joined 0 f) p
wrote_first f p = rw (joined-none f) (wrote_none p)

pub wrote_more : (f : ℕ → List ℕ) (i : ℕ) {p r s : Output} → Wrote p (joined i f) r → Wrote r (f i) s → Wrote p (joined (i + 1) f) s
wrote_more f i w v = rw (joined_more f i) (w then v)
