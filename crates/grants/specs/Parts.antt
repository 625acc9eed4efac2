-- What the parts of a month with grants promise to each other. The public contract does not cite these.
-- Assumes nothing.
use Rattle.std.specs.Prelude.{ℕ, Bool, List, get_or}
use Rattle.wire.specs.Lists.{table}
use Rattle.rules.specs.Marks.{places, granted_mark}
use Rattle.grants.specs.Grants.{grants_causes, named}
use Rattle.grants.specs.declared.list.Grants.{Grants}

-- the causes of a list under its schedule
abbrev pub causes_of : Grants → List (Bool × ℕ)
causes_of g = grants_causes g.schedule.bytes.now g.schedule.layout g.bytes.now

-- the places of a firm that it names
abbrev pub named_by : Grants → (C : List ℕ) → (i : ℕ) → Bool
named_by g C = named g.schedule.bytes.now g.schedule.layout C g.bytes.now

-- an array of marks, with the grants of a firm given
abbrev pub with_grants : (named : (i : ℕ) → Bool) → (marks : List ℕ) → List ℕ
with_grants named marks = table places (λ i. granted_mark (named i) (get_or marks i 0))
