-- The sums are those of the days before this one. A counted day is in effect, so its totals are within the limit, and no sum overflows.
use Rattle.std.proofs.Common.{◌-◌, arith}
use Rattle.rules.specs.Month.{DailyTotals}
use Rattle.month.specs.Firm.{terms_of, totals_of}
use Rattle.month.proofs.Exempt.{counted_fits, sums_none, sums-within}
use Rattle.month.proofs.firm.FirmBook.month_sums.Goals as goal

pub with_cell-sums-requires : goal.with_cell-sums-requires
with_cell-sums-requires c =
    let s = c.args.self.now in
    let f : DailyTotals = totals_of s in
    let fit = counted_fits s.schedule.bytes.now s.book.now s.firm s.sound c.args.group c.requires in
    let w = sums-within (terms_of s) f c.args.group fit (c.loop-day.day - 1) in
    record {
      within = rw c.loop-day.invariant.1 (record { raw = omega (arith, w.raw); score = omega (arith, w.score); lots = omega (arith, w.lots); days = omega (arith, w.days) });
      t_value = rw (c.in_effect.ensures, c.cell_in.ensures) (fit c.loop-day.day);
    }

pub loop-day-init : goal.loop-day-init
loop-day-init c = (omega arith, sums_none _ _ _ c.default-sums.result c.default-sums.ensures)
