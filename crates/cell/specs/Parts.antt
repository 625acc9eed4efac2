-- What the parts of an entry promise to each other, kind by kind. The public contract does not cite these.
-- Assumes nothing.
use Rattle.std.specs.Prelude.{not, [], ◌∷◌, leb, ltb}
use Rattle.rules.specs.Verdict.{fits}
use Rattle.rules.specs.declared.Totals.{Totals}
use Rattle.refusals.specs.Outcome.{Outcome, good, asked}
use Rattle.activity.specs.declared.correction.Correction.{Correction}
use Rattle.cell.specs.Cell.{grown}
use Rattle.cell.specs.Entry.{corrected}
use Rattle.cell.specs.declared.Cell.{Cell}

-- what adding the totals a to the cell c comes to
abbrev pub addition : (c : Cell) → (a : Totals) → Outcome Cell
addition c a = asked ((ltb 0 c.edition, 32) ∷ (not (fits 1 (grown c a).totals), 18) ∷ []) (good (grown c a))

-- what correcting it comes to
abbrev pub replacement : (c : Cell) → Correction → Outcome Cell
replacement c k = asked ((leb k.edition c.edition, 32) ∷ []) (good (corrected k))
