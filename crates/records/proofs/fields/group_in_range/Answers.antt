-- The tests are the definition's, in its order: a range's own test is that of its two ends.
use Rattle.std.proofs.Common.{ℕ, ◌≡◌, Bool, false, Some, arith}
use Rattle.std.proofs.lemmas.Bool.Decides.{nat_tests}
use Rattle.std.specs.Ordering.{nat_cmp}
use Rattle.std.specs.Range.{range_inclusive_start, range_inclusive_end, range_inclusive_exhausted, range_inclusive_contains}
use Rattle.std.specs.declared.ops.RangeInclusive.{RangeInclusive}
use Rattle.wire.specs.Choose.{within}
use Rattle.wire.proofs.Choose.{and-all}
use Rattle.records.specs.Fields.{group_in_range}
use Rattle.records.proofs.fields.group_in_range.Goals as goal

-- the test of a range from lo to hi that was not walked
in_range : {r : RangeInclusive ℕ} {lo hi : ℕ} (x : ℕ) {b : Bool} → b ≡ range_inclusive_contains (λ a b. Some (nat_cmp a b)) r x
    → range_inclusive_start r ≡ lo → range_inclusive_end r ≡ hi → range_inclusive_exhausted r ≡ false → b ≡ within lo hi x
in_range x v s e u = grind (arith, nat_tests)

pub returns : goal.returns
unfolding group_in_range
returns c =
    let g = c.args.g in
    let grouping = in_range g.grouping c.contains.ensures.value c.new.ensures.start c.new.ensures.end c.new.ensures.exhausted in
    let k = in_range g.k c.contains-2.ensures.value c.new-2.ensures.start c.new-2.ensures.end c.new-2.ensures.exhausted in
    let front = in_range g.front c.contains-3.ensures.value c.new-3.ensures.start c.new-3.ensures.end c.new-3.ensures.exhausted in
    let extra = in_range g.extra c.contains-4.ensures.value c.new-4.ensures.start c.new-4.ensures.end c.new-4.ensures.exhausted in
    rw (c.are_letters.ensures, grouping, k, c.is_benchmark.ensures, c.from.ensures, front, extra) (and-all _ _)
