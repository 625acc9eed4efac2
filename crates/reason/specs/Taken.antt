-- The last two automatic waivers of an exchange grouping, beside a billed day (document 02, 2.7 and 2.9): of a month's places, or of a statement's lines.
-- There are n of these, and the billed day's own is one of them; `is_waiver` says which are automatic waivers of its grouping, `named` what day and group code
-- each has. `shown` is what stands beside the billed line.
-- Assumes nothing.
use Rattle.std.specs.Prelude.{ℕ, ◌≤◌, ◌<◌, List, [], ◌∷◌, ◌++◌, ◌≡◌}

-- 2.9: zeros for a missing waiver, day 0 and two zero bytes
abbrev pub missing : List ℕ
missing = 0 ∷ 0 ∷ 0 ∷ []

module _ (n own : ℕ) (is_waiver : (k : ℕ) → Type 0) (named : (k : ℕ) → List ℕ) (shown : List ℕ) where
  -- 2.7: the last two automatic waivers, the earlier first; they stand before the billed line, and no other stands after the earlier of them
  pub record TwoTaken : Type 0 where
    pub a : ℕ
    pub b : ℕ
    pub codes : shown ≡ named a ++ named b
    pub first : is_waiver a
    pub second : is_waiver b
    pub earlier : a < b
    pub before : b < own
    pub no_other : (k : ℕ) → a < k → k < n → is_waiver k → k ≡ b

  -- 2.9, where one waiver was taken: zeros stand after the one there is
  pub record OneTaken : Type 0 where
    pub a : ℕ
    pub codes : shown ≡ named a ++ missing
    pub first : is_waiver a
    pub before : a < own
    pub no_other : (k : ℕ) → k < n → is_waiver k → k ≡ a

  -- 2.9, where none was taken
  pub record NoneTaken : Type 0 where
    pub codes : shown ≡ missing ++ missing
    pub no_other : (k : ℕ) → k < n → is_waiver k → ⊥

  -- by w, the automatic waivers that the constants give: before a billed day all of them were taken
  pub record Taken (w : ℕ) : Type 0 where
    pub two : 2 ≤ w → TwoTaken
    pub one : w ≡ 1 → OneTaken
    pub none : w ≡ 0 → NoneTaken
