-- Tables of cases, and tests over lists and ranges of numbers.
-- Assumes nothing.
use Rattle.std.specs.Prelude.{ℕ, zero, suc, ◌-◌, Bool, true, cond, ◌&&◌, List, [], ◌∷◌, Option, Some, None, leb, ltb}

-- what stands beside the first test that holds, else the last value: a table that is read from top to bottom
unfoldable pub choose : {A : Type 0} → List (Bool × A) → A → A
choose [] d = d
choose (c ∷ cs) d = cond c.0 c.1 (choose cs d)

-- every test holds
unfoldable pub all : List Bool → Bool
all [] = true
all (b ∷ bs) = b && all bs

-- x lies from lo to hi
abbrev pub within : (lo hi x : ℕ) → Bool
within lo hi x = leb lo x && leb x hi

-- the first of the `left` places from i on at which p holds, and the place after them where it holds at none
unfoldable pub seek_in : (left i : ℕ) → (ℕ → Bool) → ℕ
seek_in zero i p = i
seek_in (suc left) i p = cond (p i) i (seek_in left (suc i) p)

-- the first place from i on and below n at which p holds, else n (i itself, where i is past n)
abbrev pub seek : (i n : ℕ) → (ℕ → Bool) → ℕ
seek i n p = seek_in (n - i) i p

-- p holds at some place below n
abbrev pub some : (n : ℕ) → (ℕ → Bool) → Bool
some n p = ltb (seek 0 n p) n

-- the last place below n at which p holds, None where it holds at none
unfoldable pub last_below : (n : ℕ) → (ℕ → Bool) → Option ℕ
last_below zero p = None
last_below (suc n) p = cond (p n) (Some n) (last_below n p)
