-- The Program's constants in force for a schedule's month, and where its groups start (document 02, 2.9). S is the schedule.
-- Assumes nothing.
use Rattle.std.specs.Prelude.{ℕ, ◌+◌, Bool, cond, List, eqb}
use Rattle.rules.specs.Verdict.{version96}
use Rattle.rules.specs.declared.Rules.{Rules}
use Rattle.records.specs.Bodies.{kind_at, body_at, head_size, constants_kind, constants_size}
use Rattle.records.specs.Fields.{constants_fields}

-- 2.9: the optional kind 6 stands directly after the head
abbrev pub has_constants : (S : List ℕ) → Bool
has_constants S = eqb (kind_at S head_size) constants_kind

-- 2.9: the constants are those that it gives; absent, version 9.6's numbers hold
unfoldable pub rules_of : (S : List ℕ) → Rules
rules_of S = cond (has_constants S) (constants_fields (body_at S head_size)) version96

-- where the first group starts: behind them
abbrev pub groups_from : (S : List ℕ) → ℕ
groups_from S = head_size + cond (has_constants S) constants_size 0
