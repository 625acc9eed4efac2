-- What the arrays of a held month say of a place is what the month says of it.
use Prim.Native.Nat.{ℕ, ◌<◌}
use mathlib.Core.Bool.{Bool}
use mathlib.Core.List.{List}
use mathlib.Core.Path.{◌≡◌, ap}
use native.Mathlib.Omega.{arith}
use lib.ListN.{get_or}
use Rattle.wire.proofs.Lists.{table_at}
use Rattle.rules.specs.Verdict.{not_judged}
use Rattle.rules.specs.Month.{DailyTotals}
use Rattle.rules.specs.Marks.{places, group_of, Judged, mark}
use Rattle.rules.specs.declared.Verdict.{Verdict}
use Rattle.records.specs.Bodies.{body_at}
use Rattle.records.specs.Fields.{group_fields}
use Rattle.lookup.specs.InForce.{rules_of}
use Rattle.lookup.specs.Lookup.{group_at}
use Rattle.lookup.specs.declared.Layout.{Layout}
use Rattle.book.specs.Book.{totals_in}
use Rattle.month.specs.Month.{month_of_firm, group_month, HeldMonth}
use Rattle.month.specs.Parts.{no_group, held_group, held_mark, held_factor, held_fields}
use Rattle.month.specs.declared.GroupMonth.{GroupMonth}
use Rattle.month.specs.declared.Month.{Month}

module _ (S : List ℕ) (l : Layout) (B : List ℕ) (f : ℕ) (named : (i : ℕ) → Bool) (m : Month) (held : HeldMonth S l B f named m) where
  abbrev j : Judged
  j = month_of_firm S l B f named

  abbrev c : DailyTotals
  c = totals_in l.groups B f

  pub held-mark : (i : ℕ) → i < places → held_mark m i ≡ mark (rules_of S) j i
  held-mark i h = rw held.marks (table_at (mark (rules_of S) j) places i 0 h)

  pub held-factor : (i : ℕ) → i < places → held_factor m i ≡ (j.verdict i).factor
  held-factor i h =
      let v : get_or m.verdicts i not_judged ≡ j.verdict i = rw held.verdicts (table_at j.verdict places i not_judged h) in
      ap (λ (v : Verdict). v.factor) v

  pub held-group : (i : ℕ) → i < places → held_group m.groups i ≡ group_month S l c (group_of i)
  held-group i h = rw held.groups (table_at (group_month S l c) 32 (group_of i) no_group (omega arith))

  pub held-fields : (i : ℕ) → i < places → held_fields S m (group_of i) ≡ group_at S l (group_of i)
  held-fields i h = ap (λ (g : GroupMonth). group_fields (body_at S g.start)) (held-group i h)
