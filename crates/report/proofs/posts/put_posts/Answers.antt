-- Where no record is left, all are posted.
use Rattle.report.proofs.Posting.{posting_all}
use Rattle.report.proofs.posts.put_posts.Goals as goal

pub returns : goal.returns
returns c =
    let p = posting_all _ _ _ _ c.loop-record.invariant c.in-None.ensures.steps.0 in
    record { wrote = p.0; book_after = p.1 }
