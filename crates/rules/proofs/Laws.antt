-- The laws of the rules, each from the file that proves it; what every lawful set keeps; and what the panel's number tells, refused or not.
use Prim.Native.Nat.{ℕ, ◌≤◌, min}
use mathlib.Core.Bool.{Bool, true, false, cond}
use mathlib.Core.Path.{◌≡◌, refl, sym, ap}
use native.Mathlib.Omega.{arith}
use lib.Dec.{eqb}
use borrow.Author.Tests.{ne_eqb, leb-true}
use Rattle.wire.specs.Choose.{choose, all, within}
use Rattle.wire.proofs.Bools.{range}
use Rattle.wire.proofs.Choose.{each}
use Rattle.wire.proofs.Implies.{follows}
use Rattle.rules.specs.Verdict.{version96, verdict, is_refused, decided, refusal, days_verdict, number_of, panel_number}
use Rattle.std.specs.Cmp.{first_so, second_so}
use Rattle.rules.specs.Constants.{in_range, in_order, is_lawful, Falling, clamped}
use Rattle.rules.specs.Laws.{Laws, LawfulSets, read_back, Panel}
use Rattle.rules.specs.declared.Rules.{Rules}
use Rattle.rules.specs.declared.Totals.{Totals}
use Rattle.rules.proofs.Codes.{fails, severe, factor, violation_falls, severe_falls, never_24, pair}
use Rattle.rules.proofs.Marks.{frees_none}
use Rattle.rules.proofs.Bills.{adds_up, dollars}
use Rattle.rules.proofs.Lighter.{eased, exempt_stays, amount_lighter, no_day_off, none_off}

pub laws : (P : Rules) → Falling P → Laws P
laws P F =
    record {
      fails = fails P;
      severe = severe P;
      factor = factor P;
      lighter_code =
          λ B d t' t h. record { violation = follows (violation_falls P F (eased h) B); severe = follows (severe_falls P F (eased h) B) };
      lighter_exempt = λ s c' c h g hg. follows (exempt_stays P F s no_day_off c' c (none_off h) g hg);
      lighter_amount = λ s c' c named h. amount_lighter P F s no_day_off c' c (none_off h) named;
      off_exempt = λ s off c' c h g hg. follows (exempt_stays P F s off c' c h g hg);
      off_amount = λ s off c' c named h. amount_lighter P F s off c' c h named;
      frees_none = frees_none P;
      adds_up = adds_up P;
      dollars = dollars P;
    }

-- a number within a range is not above its end
least_is : (lo hi x : ℕ) → within lo hi x ≡ true → min x hi ≡ x
least_is lo hi x e = let r = range lo hi x e in omega (arith, r.most)

lawful96 : is_lawful version96 ≡ true
unfolding in_range in_order all
lawful96 = refl

-- the tests of a lawful set
in_its_range : (P : Rules) → is_lawful P ≡ true → in_range P ≡ true
in_its_range P e = first_so (in_range P) (in_order P) e

in_its_order : (P : Rules) → is_lawful P ≡ true → in_order P ≡ true
in_its_order P e = second_so (in_range P) (in_order P) e

falls : (P : Rules) → is_lawful P ≡ true → Falling P
unfolding in_order
falls P e = let h = each _ (in_its_order P e) in record { second = leb-true _ _ h.1.1.0; third = leb-true _ _ h.1.1.1.0 }

as_it_is : (P : Rules) → is_lawful P ≡ true → clamped P ≡ P
unfolding in_range
as_it_is P e =
    let h = each _ (in_its_range P e) in
    let f = h.1.1.1 in
    rw (least_is 1 10 P.factor1 f.0, least_is 1 10 P.factor2 f.1.0, least_is 1 10 P.factor3 f.1.1.0, least_is 1 20 P.severe f.1.1.1.0) refl

most-dollars : (P : Rules) → is_lawful P ≡ true → P.dollars ≤ 10000
unfolding in_range
most-dollars P e = let h = each _ (in_its_range P e) in (range 1 10000 P.dollars h.1.1.1.1.1.1.1.1.0).most

pub lawful_sets : LawfulSets
lawful_sets = record { laws = λ P e. laws P (falls P e); falls = falls; as_it_is = as_it_is; most_dollars = most-dollars; of_96 = lawful96 }

only_refused : (t : Totals) (B : ℕ) → eqb (panel_number t B) 24 ≡ is_refused 1 t B
unfolding panel_number
only_refused t B = go (is_refused 1 t B)
  where
    go : (b : Bool) → eqb (cond b 24 (number_of (verdict version96 B 1 t))) 24 ≡ b
    go true = refl
    go false = ne_eqb _ _ (never_24 B 1 t)

one_day : (t : Totals) (B : ℕ) → days_verdict version96 1 t B ≡ cond (is_refused 1 t B) (refusal (panel_number t B)) (decided (read_back (panel_number t B)))
unfolding days_verdict panel_number choose
one_day t B = go (is_refused 1 t B)
  where
    go : (b : Bool) → let n = cond b 24 (number_of (verdict version96 B 1 t)) in
        cond b (refusal 24) (decided (verdict version96 B 1 t)) ≡ cond b (refusal n) (decided (read_back n))
    go true = refl
    go false = ap decided (sym (pair B 1 t))

pub panel : Panel
panel = record { never_24 = never_24; pair = pair; refused = only_refused; one_day = one_day }
