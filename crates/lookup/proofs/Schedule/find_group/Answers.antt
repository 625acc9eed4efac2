-- The walk stands at the start of group i, and the search from there has the same answer as from the first.
use Rattle.std.proofs.Common.{refl, sym, ◌∙◌, rules}
use Rattle.wire.proofs.Choose.{seek-next}
use Rattle.lookup.specs.Lookup.{group_is}
use Rattle.lookup.proofs.Laws.{group_next, group-first}
use Rattle.lookup.proofs.Schedule.find_group.Goals as goal

pub loop-i-preserved : goal.loop-i-preserved
unfolding group_is
loop-i-preserved c =
    let l = c.loop-i in
    let hasnt = sym c.group_has.ensures ∙ c.if-group_has.false in
    record {
      near = search rules;
      stands = simp (c.from-at.ensures, c.u16_at.ensures, group_next, l.invariant.stands);
      seeks = l.invariant.seeks ∙ seek-next _ _ _ c.loop-i-test.true (rw l.invariant.stands at hasnt);
    }

pub loop-i-init : goal.loop-i-init
loop-i-init c = record { near = search rules; stands = sym (group-first _ _); seeks = refl }
