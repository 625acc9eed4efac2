-- What was found is the first group that has the code; a code that was not found is unlisted.
use Rattle.std.proofs.Common.{sym, ◌∙◌, refl}
use Rattle.lookup.specs.Lookup.{group_listed}
use Rattle.lookup.proofs.Laws.{group-found, group_unlisted}
use Rattle.grants.proofs.list.Grants.has_group.Goals as goal

pub returns-in-Some : goal.returns-in-Some
unfolding group_listed
returns-in-Some c =
    let f = group-found _ _ _ (sym c.in-Some.is ∙ c.find_group.ensures) in
    rw (f.listed, f.first, c.from.ensures) refl

pub returns-in-None : goal.returns-in-None
returns-in-None c = rw (group_unlisted _ _ _ (sym c.in-None.is ∙ c.find_group.ensures)) refl
