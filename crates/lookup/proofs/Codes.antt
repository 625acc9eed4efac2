-- A record's code is read from the bytes after length and kind, so it stands four bytes on.
use Prim.Native.Nat.{ℕ, ◌+◌}
use mathlib.Core.List.{List}
use mathlib.Core.Path.{◌≡◌, ap, ◌∙◌}
use native.Mathlib.Omega.{arith}
use lib.ListN.{get_or}
use lib.Seq.{get_or-drop}
use Rattle.records.specs.Bodies.{rest_at}
use Rattle.records.specs.Fields.{group_fields, firm_fields, has_code}
use Rattle.records.proofs.Parts.{code-letters, pair-letters}
use Rattle.lookup.specs.Lookup.{group_start, firm_start, group_is, firm_is}
use Rattle.lookup.specs.Codes.{CodesStand}

rest_byte : (S : List ℕ) (at k j : ℕ) → j ≡ k + 4 → get_or (rest_at S at) k 0 ≡ get_or S (at + j) 0
rest_byte S at k j e =
    let there : at + 4 + k ≡ at + j = omega arith in
    get_or-drop (at + 4) S k 0 ∙ ap (λ (n : ℕ). get_or S n 0) there

pub codes_stand : (S : List ℕ) → CodesStand S
unfolding group_is firm_is group_fields firm_fields has_code
codes_stand S =
    record {
      group = λ first C i.
          let at = group_start S first i in
          pair-letters _ _ C ∙ rw (rest_byte S at 0 4 (omega arith), rest_byte S at 1 5 (omega arith));
      firm = λ start C i.
          let at = firm_start start i in
          code-letters _ _ _ C ∙ rw (rest_byte S at 0 4 (omega arith), rest_byte S at 1 5 (omega arith), rest_byte S at 2 6 (omega arith));
    }
