-- A run of posts, one record at a time: what is written so far and what is left to write make up the run's lines.
use Prim.Native.Nat.{ℕ}
use mathlib.Core.List.{List, [], ◌∷◌, ◌++◌, append_assoc, append-nil}
use mathlib.Core.Path.{◌≡◌, ap}
use Rattle.accepted.specs.Accepted.{posted}
use Rattle.book.specs.Post.{post_answer, post_book}
use Rattle.text.specs.declared.Output.{Output}
use Rattle.text.specs.Text.{Wrote}
use Rattle.text.proofs.Writing.{wrote_none, ◌then◌}
use Rattle.report.specs.Report.{post_line, post_lines}

-- of the records rs those before `left` were posted, to the book B₀, which is now B; their lines were written to p, which is now r
pub record Posting (S B₀ : List ℕ) (rs : List (List ℕ)) (p r : Output) (B : List ℕ) (left : List (List ℕ)) : Type 0 where
  pub done : List ℕ
  pub wrote : Wrote p done r
  pub lines : done ++ post_lines S B left ≡ post_lines S B₀ rs
  pub book : posted S B left ≡ posted S B₀ rs

module _ (S B₀ : List ℕ) (rs : List (List ℕ)) (p : Output) where
  -- nothing is posted yet
  pub posting_none : {left : List (List ℕ)} → left ≡ rs → Posting S B₀ rs p p B₀ left
  posting_none e = record { done = []; wrote = wrote_none p; lines = ap (post_lines S B₀) e; book = ap (posted S B₀) e }

  module _ {r : Output} {B : List ℕ} {left : List (List ℕ)} (so_far : Posting S B₀ rs p r B left) where
    -- the line of the next record R is written and the book is as its post left it
    pub posting_next : {r' : Output} {B' R : List ℕ} {rest : List (List ℕ)} → left ≡ R ∷ rest
        → Wrote r (post_line (post_answer S B R)) r' → B' ≡ post_book S B R → Posting S B₀ rs p r' B' rest
    unfolding post_lines posted
    posting_next {R = R} {rest = rest} next w b =
        let L = post_line (post_answer S B R) in
        record {
          done = so_far.done ++ L;
          wrote = so_far.wrote then w;
          lines = rw (b, append_assoc) ((rw next at so_far.lines));
          book = rw b (rw next at so_far.book);
        }

    -- all of them are posted
    pub posting_all : left ≡ [] → Wrote p (post_lines S B₀ rs) r × (B ≡ posted S B₀ rs)
    unfolding post_lines posted
    posting_all none = (rw (← so_far.lines, none, append-nil) so_far.wrote, rw none at so_far.book)
