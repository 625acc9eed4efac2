-- Where the codes stand, by document 01's own offsets ("Records": a group's code at 4, a firm's at 4). Proved in proofs/Codes.antt: of any bytes.
-- Assumes nothing.
use Rattle.std.specs.Prelude.{ℕ, ◌+◌, List, [], ◌∷◌, ◌≡◌, eqb, length, get_or}
use Rattle.wire.specs.Choose.{all}
use Rattle.lookup.specs.Lookup.{group_start, firm_start, group_is, firm_is}

pub record CodesStand (S : List ℕ) : Type 0 where
  pub group : (first : ℕ) (C : List ℕ) (i : ℕ) → group_is S first C i
      ≡ all
      (eqb (length C) 2
      ∷ eqb (get_or S (group_start S first i + 4) 0) (get_or C 0 0)
      ∷ eqb (get_or S (group_start S first i + 5) 0) (get_or C 1 0)
      ∷ [])
  pub firm : (start : ℕ) (C : List ℕ) (i : ℕ) → firm_is S start C i
      ≡ all
      (eqb (length C) 3
      ∷ eqb (get_or S (firm_start start i + 4) 0) (get_or C 0 0)
      ∷ eqb (get_or S (firm_start start i + 5) 0) (get_or C 1 0)
      ∷ eqb (get_or S (firm_start start i + 6) 0) (get_or C 2 0)
      ∷ [])
