-- What a firm's numbers in the book of a schedule are judged by. The public contract does not cite these.
-- Assumes nothing.
use Rattle.std.specs.Prelude.{ℕ, List}
use Rattle.rules.specs.Month.{Terms, DailyTotals}
use Rattle.lookup.specs.declared.Layout.{Layout}
use Rattle.book.specs.Book.{totals_in}
use Rattle.month.specs.Month.{terms}
use Rattle.month.specs.declared.firm.FirmBook.{FirmBook}

-- the schedule's bytes, and what they hold
abbrev pub bytes_of : FirmBook → List ℕ
bytes_of f = f.schedule.bytes.now

abbrev pub layout_of : FirmBook → Layout
layout_of f = f.schedule.layout

-- what the schedule says of the month
abbrev pub terms_of : FirmBook → Terms
terms_of f = terms (bytes_of f) (layout_of f)

-- the firm's totals
abbrev pub totals_of : FirmBook → DailyTotals
totals_of f = totals_in (layout_of f).groups f.book.now f.firm
