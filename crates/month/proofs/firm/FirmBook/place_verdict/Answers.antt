-- Past the last group and on a day that is not in effect nothing is judged; elsewhere there is a verdict on the cell, and it is the place's.
use Prim.Native.Nat.{◌+◌, ◌/◌, ◌%◌}
use mathlib.Core.Bool.{◌&&◌}
use mathlib.Core.Path.{◌≡◌, ap, ap₂, ◌∙◌, sym}
use lib.Dec.{ltb}
use Rattle.rules.specs.Constants.{clamped}
use Rattle.rules.specs.Verdict.{days_verdict}
use Rattle.rules.specs.declared.Rules.{Rules}
use Rattle.lookup.specs.InForce.{rules_of}
use Rattle.schedule.proofs.Found.{rules-clamped}
use Rattle.cell.specs.declared.Cell.{Cell}
use Rattle.book.specs.Book.{cells}
use Rattle.month.specs.Parts.{verdict_in}
use Rattle.month.proofs.Exempt.{verdict_told, verdict_place}
use Rattle.month.proofs.firm.FirmBook.place_verdict.Goals as goal

pub returns : goal.returns
returns c =
    let s = c.args.self.now in
    let bytes = s.schedule.bytes.now in
    let same : clamped s.rules ≡ rules_of bytes = rw s.in_force (rules-clamped bytes s.sound.checked) in
    let listed = sym (ap₂ (λ n b. ltb (c.args.i % 32) n && b) c.from.ensures c.in_effect.ensures) ∙ c.if-not-g-from.false in
    verdict_told c.days_verdict.result c.unwrap_or.ensures
    ∙ ap verdict_in c.days_verdict.ensures
    ∙ ap₂ (λ (p : Rules) t. verdict_in (days_verdict p 1 t c.from-benchmark.result)) same (ap (λ (e : Cell). e.totals) c.cell_in.ensures)
    ∙ ap (λ B. verdict_in (days_verdict (rules_of bytes) 1 (cells s.schedule.layout.groups s.book.now s.firm (c.args.i % 32) (c.args.i / 32 + 1)).totals B))
    (c.from-benchmark.ensures ∙ ap (λ g. g.benchmark) c.group.ensures)
    ∙ verdict_place bytes (cells s.schedule.layout.groups s.book.now s.firm) s.sound c.args.i listed
