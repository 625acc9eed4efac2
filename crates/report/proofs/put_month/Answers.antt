-- Three texts, each after the last: the heading, the refused records of the posts to the opened book, and the firms' lines from the book as they left it.
use Rattle.text.proofs.Writing.{◌then◌}
use Rattle.report.specs.Report.{zeros, month_lines}
use Rattle.report.proofs.put_month.Goals as goal

pub returns : goal.returns
unfolding month_lines zeros
returns c =
    let book = c.«open».ensures.book in
    c.put_line.ensures
    then (rw book at c.put_posts.ensures.wrote)
    then (rw (c.put_posts.ensures.book_after, book) at c.put_firms.ensures)
