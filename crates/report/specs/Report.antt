-- What mep-statement prints for an input (document 01, "Eleven marked days, a month and one whole run", and document 02, 2.3 and 2.6). I is the input, S
-- the schedule, l what it holds, rs the posted records, B the book, C a firm's code.
-- Assumes nothing.
use Rattle.std.specs.Prelude.{ℕ, ◌-◌, ◌*◌, ◌/◌, cond, List, [], ◌∷◌, ◌++◌, ltb, length, drop, replicate}
use Rattle.wire.specs.Lists.{joined}
use Rattle.lookup.specs.Lookup.{firm_start}
use Rattle.records.specs.Bodies.{rest_at}
use Rattle.records.specs.Fields.{firm_fields}
use Rattle.refusals.specs.Outcome.{Outcome, refused, good}
use Rattle.lookup.specs.declared.Layout.{Layout}
use Rattle.accepted.specs.Accepted.{posted}
use Rattle.book.specs.Book.{per_firm_group, check_book, open_book}
use Rattle.book.specs.Post.{post_answer, post_book}
use Rattle.book.specs.declared.posting.Effect.{Effect}
use Rattle.statement.specs.Layout.{line_size, totals_size, both_totals, largest}
use Rattle.statement.specs.Statement.{statement_answer, statement_output}
use Rattle.text.specs.Lines.{too_long, heading, refused_line, refused_at, violation_line, totals_line}
use Rattle.input.specs.Input.{input_limit, schedule_of, activity_of}

-- 2.3: its book fits 66 firm-groups
abbrev pub firm_groups : ℕ
firm_groups = 66

-- the numbers of its book
abbrev pub book_size : ℕ
book_size = firm_groups * per_firm_group

-- a book or an output before its first use
unfoldable pub zeros : ℕ → List ℕ
zeros n = replicate n 0

-- a posted record has a line where it is refused
abbrev pub post_line : Outcome Effect → List ℕ
post_line (refused number offset) = refused_line number
post_line (good effect) = []

-- "refused N" lines if any: each post takes the book as the one before left it
unfoldable pub post_lines : (S B : List ℕ) → (rs : List (List ℕ)) → List ℕ
post_lines S B [] = []
post_lines S B (R ∷ rs) = post_line (post_answer S B R) ++ post_lines S (post_book S B R) rs

module _ (C : List ℕ) where
  -- a statement R of so many bytes: its violations, then its two totals
  unfoldable pub statement_lines : (R : List ℕ) → (bytes : ℕ) → List ℕ
  statement_lines R bytes =
      joined ((bytes - both_totals) / line_size) (λ i. violation_line C (drop (line_size * i) R))
      ++ totals_line C (drop (bytes - both_totals) R)
      ++ totals_line C (drop (bytes - totals_size) R)

  -- a firm's violations and totals; a statement that is refused would show its number, and in a report none is (report_laws)
  abbrev pub firm_lines : (R : List ℕ) → Outcome ℕ → List ℕ
  firm_lines R (refused number offset) = refused_line number
  firm_lines R (good bytes) = statement_lines R bytes

module _ (S : List ℕ) (l : Layout) where
  -- the code of firm f, from 0
  abbrev pub code_of : (f : ℕ) → List ℕ
  code_of f = (firm_fields (rest_at S (firm_start l.start f))).code

  -- then per firm its violations and totals; 2.6: the program reads no grants
  unfoldable pub statement_of : (B : List ℕ) → (f : ℕ) → List ℕ
  statement_of B f =
      let C = code_of f in
      let out = zeros largest in
      firm_lines C (statement_output S B C [] out) (statement_answer S B C [] out)

  -- heading with month number, then "refused N" lines if any, then per firm its violations and totals
  unfoldable pub month_lines : (rs : List (List ℕ)) → List ℕ
  month_lines rs =
      let B = open_book S (zeros book_size) in
      heading l.month ++ post_lines S B rs ++ joined l.firms (statement_of (posted S B rs))

-- A refused schedule or book prints only "refused N at O"
abbrev pub schedule_lines : (S : List ℕ) → (rs : List (List ℕ)) → Outcome Layout → List ℕ
schedule_lines S rs (refused number offset) = refused_at number offset
schedule_lines S rs (good l) = month_lines S l rs

-- at most 65,536 bytes (else it prints "too long")
unfoldable pub report : (I : List ℕ) → List ℕ
report I =
    cond (ltb input_limit (length I)) too_long
    (let S = schedule_of I in schedule_lines S (activity_of I) (check_book S book_size))
