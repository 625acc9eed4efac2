-- A line shows what stands in its own record. So a statement's lines are those of its violations and of its two totals, whatever stands behind it.
use Prim.Native.Nat.{ℕ, ◌+◌, ◌-◌, ◌*◌, ◌/◌, ◌≤◌, ◌<◌}
use mathlib.Core.List.{List, [], ◌++◌, append_assoc, append-nil}
use mathlib.Core.Path.{◌≡◌, refl, sym, ap, ap₂, ◌∙◌}
use native.Mathlib.Omega.{arith}
use lib.ListN.{length, get_or, take, drop, length-drop, take-append-drop}
use lib.Seq.{drop-drop, length-take-le}
use Rattle.std.proofs.lemmas.List.{get_or_append_left, drop-append-le}
use Rattle.wire.specs.Bytes.{u16_at, u32_at}
use Rattle.wire.specs.Lists.{joined}
use Rattle.wire.proofs.Lists.{joined_same}
use Rattle.statement.specs.Layout.{line_size, totals_size, both_totals}
use Rattle.text.specs.Lines.{counts, violation_line, totals_line}
use Rattle.report.specs.Report.{statement_lines}

module _ (C : List ℕ) where
  pub line_front : (L X : List ℕ) → line_size ≤ length L → violation_line C (L ++ X) ≡ violation_line C L
  unfolding violation_line u32_at u16_at
  line_front L X h =
      rw (byte 4 (omega arith), byte 5 (omega arith), byte 6 (omega arith), byte 7 (omega arith), byte 8 (omega arith), byte 9 (omega arith), byte 10 (omega arith), byte 11 (omega arith))
    where
      byte : (i : ℕ) → i < length L → get_or (L ++ X) i 0 ≡ get_or L i 0
      byte i l = get_or_append_left L X 0 i l

  totals_front : (T X : List ℕ) → totals_size ≤ length T → totals_line C (T ++ X) ≡ totals_line C T
  unfolding totals_line counts u32_at u16_at
  totals_front T X h =
      rw (
        byte 4 (omega arith),
        byte 6 (omega arith),
        byte 7 (omega arith),
        byte 8 (omega arith),
        byte 9 (omega arith),
        byte 10 (omega arith),
        byte 11 (omega arith),
        byte 12 (omega arith),
        byte 13 (omega arith),
        byte 14 (omega arith),
        byte 15 (omega arith),
        byte 16 (omega arith),
        byte 17 (omega arith),
        byte 18 (omega arith),
        byte 19 (omega arith),
      )
    where
      byte : (i : ℕ) → i < length T → get_or (T ++ X) i 0 ≡ get_or T i 0
      byte i l = get_or_append_left T X 0 i l

  -- the lines of the violations V, whatever stands behind them
  abbrev pub lines_of : List ℕ → List ℕ
  lines_of V = joined (length V / line_size) (λ i. violation_line C (drop (line_size * i) V))

  violations_front : (V X : List ℕ) (n : ℕ) → length V ≡ n → joined (n / line_size) (λ i. violation_line C (drop (line_size * i) (V ++ X))) ≡ lines_of V
  violations_front V X n e =
      rw (← e)
      (joined_same (length V / line_size) _ _
      (λ i l.
      rw (drop-append-le (line_size * i) V X (omega arith))
      (line_front (drop (line_size * i) V) X (rw length-drop (omega arith)))))

  -- a statement A, its violations V, its totals T and U
  module _ (A V T U : List ℕ) (room : both_totals ≤ length A) (v : V ≡ take (length A - both_totals) A)
      (t : T ≡ take totals_size (drop (length A - both_totals) A)) (u : U ≡ drop totals_size (drop (length A - both_totals) A)) where
    pub statement_shown : (X : List ℕ) → statement_lines C (A ++ X) (length A) ≡ lines_of V ++ totals_line C T ++ totals_line C U
    unfolding statement_lines
    statement_shown X = ap₂ ◌++◌ (ap₂ ◌++◌ violations first) second
      where
        at : ℕ
        at = length A - both_totals

        D : List ℕ
        D = drop at A

        violations : joined (at / line_size) (λ i. violation_line C (drop (line_size * i) (A ++ X))) ≡ lines_of V
        violations =
            let parts : A ++ X ≡ V ++ (D ++ X) = rw v (ap (λ l. l ++ X) (sym (take-append-drop at A)) ∙ append_assoc (take at A) D X) in
            ap (λ l. joined (at / line_size) (λ i. violation_line C (drop (line_size * i) l))) parts
            ∙ violations_front V (D ++ X) at (ap length v ∙ length-take-le at A (omega arith))

        first : totals_line C (drop at (A ++ X)) ≡ totals_line C T
        first =
            let parts : D ++ X ≡ T ++ (U ++ X) = rw (t, u) (ap (λ l. l ++ X) (sym (take-append-drop totals_size D)) ∙ append_assoc (take totals_size D) (drop totals_size D) X) in
            let room : totals_size ≤ length T = rw (t, length-take-le totals_size D (rw length-drop (omega arith))) (omega arith) in
            ap (totals_line C) (drop-append-le at A X (omega arith) ∙ parts) ∙ totals_front T (U ++ X) room

        second : totals_line C (drop (length A - totals_size) (A ++ X)) ≡ totals_line C U
        second =
            let place : length A - totals_size ≡ at + totals_size = omega arith in
            let rest : drop (length A - totals_size) A ≡ U = ap (λ (k : ℕ). drop k A) place ∙ sym (drop-drop totals_size at A) ∙ sym u in
            let room : totals_size ≤ length U = rw (← rest, length-drop) (omega arith) in
            ap (totals_line C) (drop-append-le (length A - totals_size) A X (omega arith) ∙ ap (λ l. l ++ X) rest) ∙ totals_front U X room

    -- also where it stands alone
    pub statement_alone : statement_lines C A (length A) ≡ lines_of V ++ totals_line C T ++ totals_line C U
    statement_alone = ap (λ R. statement_lines C R (length A)) (sym (append-nil A)) ∙ statement_shown []

  -- the first n bytes R of an output have the lines of the statement that stands there
  pub statement_front : (out : List ℕ) (n : ℕ) → both_totals ≤ n → n ≤ length out
      → statement_lines C (take n out) (length (take n out)) ≡ statement_lines C out n
  statement_front out n h k =
      let A : List ℕ = take n out in
      let size : length A ≡ n = length-take-le n out k in
      let room : both_totals ≤ length A = omega (arith, size) in
      statement_alone A _ _ _ room refl refl refl
      ∙ sym (statement_shown A _ _ _ room refl refl refl (drop n out))
      ∙ ap₂ (λ R (m : ℕ). statement_lines C R m) (take-append-drop n out) size
