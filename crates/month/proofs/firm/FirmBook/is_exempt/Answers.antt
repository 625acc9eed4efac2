-- There is a verdict on the sums of the counted days, and the month is exempt where its code is no violation; past the last group
-- nothing is counted.
use mathlib.Core.Bool.{not}
use mathlib.Core.Path.{◌≡◌, sym, ap, ap₂, ◌∙◌}
use Rattle.rules.specs.Month.{DailyTotals}
use Rattle.rules.specs.Verdict.{is_violation, days_verdict}
use Rattle.rules.specs.Constants.{clamped}
use Rattle.rules.specs.declared.Rules.{Rules}
use Rattle.lookup.specs.InForce.{rules_of}
use Rattle.schedule.proofs.Found.{group-listed, rules-clamped}
use Rattle.month.specs.Parts.{sums_to, summed_totals, verdict_in}
use Rattle.month.specs.declared.days.MonthSums.{MonthSums}
use Rattle.month.specs.Firm.{terms_of, totals_of}
use Rattle.month.proofs.Exempt.{counted_fits, verdict_told, exempt_past, exempt_verdict}
use Rattle.month.proofs.firm.FirmBook.is_exempt.Goals as goal

pub returns-then-from-g : goal.returns-then-from-g
returns-then-from-g c =
    let s = c.args.self.now in
    let l = s.schedule.layout in
    sym (exempt_past s.schedule.bytes.now l s.book.now s.firm c.args.g (rw c.from.ensures at c.if-from-g.true))

pub returns : goal.returns
unfolding sums_to
returns c =
    let s = c.args.self.now in
    let g = c.args.g in
    let bytes = s.schedule.bytes.now in
    let same : clamped s.rules ≡ rules_of bytes = rw s.in_force (rules-clamped bytes s.sound.checked) in
    let t = terms_of s in
    let traffic : DailyTotals = totals_of s in
    let fit = counted_fits bytes s.book.now s.firm s.sound g c.requires.g_lt_most_groups in
    -- the verdict is that on the group's sums
    let decided = ap verdict_in c.days_verdict.ensures
    ∙ ap₂ (λ (p : Rules) t. verdict_in (days_verdict p c.args.sums.days t c.from-benchmark.result)) same c.from-2.ensures
    ∙ ap₂ (λ (s : MonthSums) B. verdict_in (days_verdict (rules_of bytes) s.days (summed_totals s) B))
    c.requires.sums_value (c.from-benchmark.ensures ∙ ap (λ g. g.benchmark) c.group.ensures) in
    let benchmark = (group-listed bytes s.sound.checked g (rw c.from.ensures at c.if-from-g.false)).benchmark in
    ap not (c.is_violation.ensures ∙ ap (λ v. is_violation v.code) (verdict_told c.days_verdict.result c.unwrap_or-verdict.ensures))
    ∙ ap (λ v. not (is_violation v.code)) decided
    ∙ sym (exempt_verdict t traffic g fit (rules_of bytes) benchmark)
