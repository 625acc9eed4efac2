-- Four bytes behind the place, and the place's own before them, are left out together.
use Rattle.std.proofs.Common.{◌∙◌, ap, drop}
use Rattle.std.proofs.lemmas.List.{drop-drop}
use Rattle.records.proofs.bodies.rest_at.Goals as goal

pub returns : goal.returns
returns c = c.tail-2.ensures ∙ ap (drop 4) c.tail.ensures ∙ drop-drop 4 c.args.at c.args.s.now
