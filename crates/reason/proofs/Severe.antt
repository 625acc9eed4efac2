-- A place whose code is severe is listed and in effect: there the verdict's factor is its tier's, and the score is above the severe multiple's bound.
use Prim.Native.Nat.{ℕ, ◌*◌}
use mathlib.Core.Bool.{Bool, true, cond, ◌&&◌}
use mathlib.Core.Path.{◌≡◌, refl, sym, ap, ◌∙◌}
use lib.Dec.{ltb}
use Rattle.std.specs.Cmp.{first_so, second_so}
use Rattle.rules.specs.Verdict.{verdict, not_judged, tier_factor, is_severe, exceeds}
use Rattle.rules.specs.Month.{Terms, DailyTotals}
use Rattle.rules.specs.Marks.{day_of, group_of, Judged, judged}
use Rattle.rules.specs.declared.Rules.{Rules}
use Rattle.rules.proofs.Codes.{severe, factor}
use Rattle.rules.proofs.Marks.{on_place}

module _ (P : Rules) (s : Terms) (c : DailyTotals) (named : (i : ℕ) → Bool) (i : ℕ) where
  abbrev j : Judged
  j = judged P s c named

  abbrev on : Bool
  on = ltb (group_of i) s.groups && s.in_effect (day_of i)

  abbrev B : ℕ
  B = s.benchmark (group_of i)

  severe_cell : is_severe (j.verdict i).code ≡ true → j.verdict i ≡ verdict P B 1 (c (group_of i) (day_of i))
  severe_cell e = ap (λ b. cond b (verdict P B 1 (c (group_of i) (day_of i))) not_judged) (on_place is_severe refl on _ e)

  module _ (e : is_severe (j.verdict i).code ≡ true) where
    tests : (ltb (P.edge1 * 1) (c (group_of i) (day_of i)).raw && (exceeds P B 1 (c (group_of i) (day_of i)) && exceeds P (P.severe * B) 1 (c (group_of i) (day_of i)))) ≡ true
    tests = sym (severe P B 1 (c (group_of i) (day_of i))) ∙ rw (severe_cell e) at e

    pub tier : (j.verdict i).factor ≡ tier_factor P 1 (c (group_of i) (day_of i)).raw
    tier =
        rw (severe_cell e) (factor P B 1 (c (group_of i) (day_of i)) ∙ rw (first_so (ltb (P.edge1 * 1) (c (group_of i) (day_of i)).raw) _ tests) refl)

    pub above_multiple : exceeds P (P.severe * B) 1 (c (group_of i) (day_of i)) ≡ true
    above_multiple = second_so (exceeds P B 1 (c (group_of i) (day_of i))) _ (second_so (ltb (P.edge1 * 1) (c (group_of i) (day_of i)).raw) _ tests)
