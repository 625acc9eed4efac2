-- A walk over the lines of a statement's violations.
use Prim.Native.Nat.{ℕ, ◌+◌, ◌*◌, ◌/◌, ◌≤◌, ◌<◌}
use mathlib.Core.List.{List, ◌++◌}
use mathlib.Core.Path.{◌≡◌, sym, ap, ◌∙◌}
use native.Mathlib.Omega.{arith}
use lib.ListN.{length, drop, length-drop, length-append}
use lib.Seq.{drop-drop, drop_at}
use Rattle.wire.specs.Lists.{joined}
use Rattle.text.specs.declared.Output.{Output}
use Rattle.text.specs.Text.{Wrote}
use Rattle.text.proofs.Writing.{wrote_first, wrote_more}
use Rattle.statement.specs.Layout.{line_size}
use Rattle.text.specs.Lines.{violation_line}
use Rattle.report.proofs.Fronts.{line_front, lines_of}

-- so many lines of the violations V were written to p, which is now r, and `left` is behind them
pub record Showing (C V : List ℕ) (p r : Output) (left : List ℕ) : Type 0 where
  pub shown : ℕ
  pub wrote : Wrote p (joined shown (λ i. violation_line C (drop (line_size * i) V))) r
  pub behind : left ≡ drop (line_size * shown) V
  pub within : line_size * shown ≤ length V

module _ (C V : List ℕ) (p : Output) where
  pub showing_none : {left : List ℕ} → left ≡ V → Showing C V p p left
  showing_none e = record { shown = 0; wrote = wrote_first _ _; behind = e; within = omega arith }

  module _ {r : Output} {left : List ℕ} (so_far : Showing C V p r left) where
    -- one line more
    pub showing_next : {s : Output} (L rest : List ℕ) → left ≡ L ++ rest → length L ≡ line_size → Wrote r (violation_line C L) s → Showing C V p s rest
    showing_next L rest e n w =
        let here : drop (line_size * so_far.shown) V ≡ L ++ rest = sym so_far.behind ∙ e in
        let line : violation_line C (drop (line_size * so_far.shown) V) ≡ violation_line C L = ap (violation_line C) here ∙ line_front C L rest (omega arith) in
        record {
          shown = so_far.shown + 1;
          wrote = wrote_more _ _ so_far.wrote (rw line w);
          behind =
              let place : line_size * (so_far.shown + 1) ≡ line_size * so_far.shown + line_size = omega arith in
              sym (ap (λ (k : ℕ). drop k V) place ∙ sym (drop-drop line_size (line_size * so_far.shown) V) ∙ ap (drop line_size) here ∙ drop_at L rest line_size n);
          within = omega (arith, ap length here, length-drop (line_size * so_far.shown) V, length-append L rest);
        }

    -- none more
    pub showing_all : length left < line_size → Wrote p (lines_of C V) r
    showing_all few =
        let all : so_far.shown ≡ length V / line_size = omega (arith, ap length so_far.behind, length-drop (line_size * so_far.shown) V, so_far.within) in
        rw all at so_far.wrote
