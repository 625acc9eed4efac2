-- Laws of tables of cases, of tests that must all hold, and of searches.
use Prim.Native.Nat.{ℕ, zero, suc, ◌+◌, ◌-◌, ◌≤◌, ◌<◌}
use mathlib.Core.Bool.{Bool, true, false, cond, not, ◌&&◌, and-true, and_assoc, false≢true}
use mathlib.Core.List.{List, [], ◌∷◌, ◌++◌, foldl}
use mathlib.Core.Path.{◌≡◌, refl, sym, ◌∙◌, ap}
use native.Mathlib.Numerals.{add-one}
use native.Mathlib.Omega.{arith}
use lib.Dec.{leb, eqb}
use borrow.Author.Tests.{leb-true, eq-eqb, eqb-true, eqb-false, ltb-true, ltb-false, lt-ltb}
use Rattle.wire.specs.Choose.{choose, all, seek_in, seek, some}
use Rattle.std.specs.Prelude.{Option, Some, None}
use Rattle.std.specs.Cmp.{first_so, second_so}
use Rattle.std.proofs.Common.{MatchOption}
use Rattle.wire.proofs.Bools.{never}

-- how a choice was made: from the top, tests that fail are passed, and one that holds decides
pub data Chosen {A : Type 0} : List (Bool × A) → A → A → Type 0 where
  here : {b : Bool} {a d : A} {cs : List (Bool × A)} → b ≡ true → Chosen ((b, a) ∷ cs) d a
  next : {b : Bool} {a d r : A} {cs : List (Bool × A)} → b ≡ false → Chosen cs d r → Chosen ((b, a) ∷ cs) d r
  done : {d : A} → Chosen [] d d

pub chosen : {A : Type 0} {cs : List (Bool × A)} {d r : A} → Chosen cs d r → choose cs d ≡ r
unfolding choose
chosen (here e) = rw e
chosen (next e m) = rw (e, chosen m)
chosen done = refl

-- where a choice with the last value 0 comes to 0, and no case does, every test failed
abbrev pub Passed : List (Bool × ℕ) → Type 0
Passed [] = Unit {0}
Passed (c ∷ cs) = (c.0 ≡ false) × Passed cs

abbrev pub numbered : List (Bool × ℕ) → Bool
numbered [] = true
numbered (c ∷ cs) = not (eqb c.1 0) && numbered cs

pub passed : (cs : List (Bool × ℕ)) → numbered cs ≡ true → choose cs 0 ≡ 0 → Passed cs
unfolding choose
passed [] t e = tt
passed ((true, n) ∷ cs) t e = absurd (false≢true (ap not (sym (eq-eqb n 0 e)) ∙ first_so (not (eqb n 0)) (numbered cs) t))
passed ((false, n) ∷ cs) t e = (refl, passed cs (second_so (not (eqb n 0)) (numbered cs) t) e)

-- of one table after another the first decides where it comes to a number, and the second where it comes to 0
pub choose_first : (cs ds : List (Bool × ℕ)) {n : ℕ} → choose cs 0 ≡ n → (n ≡ 0 → ⊥) → choose (cs ++ ds) 0 ≡ n
unfolding choose
choose_first [] ds e h = absurd (h (sym e))
choose_first ((true, a) ∷ cs) ds e h = e
choose_first ((false, a) ∷ cs) ds e h = choose_first cs ds e h

pub choose_second : (cs ds : List (Bool × ℕ)) → Passed cs → choose (cs ++ ds) 0 ≡ choose ds 0
unfolding choose
choose_second [] ds p = refl
choose_second ((b, n) ∷ cs) ds p = rw p.0 (choose_second cs ds p.1)

-- where every test of both failed, every test of the first did
pub passed_first : (cs ds : List (Bool × ℕ)) → Passed (cs ++ ds) → Passed cs
passed_first [] ds p = tt
passed_first (c ∷ cs) ds p = (p.0, passed_first cs ds p.1)

-- and of the second
pub passed_second : (cs ds : List (Bool × ℕ)) → Passed (cs ++ ds) → Passed ds
passed_second [] ds p = p
passed_second (c ∷ cs) ds p = passed_second cs ds p.1

-- every value of a table measures at most m
abbrev pub small : {A : Type 0} → (A → ℕ) → (m : ℕ) → List (Bool × A) → Bool
small size m [] = true
small size m (c ∷ cs) = leb (size c.1) m && small size m cs

-- then so does what is chosen from it
pub choose_most : {A : Type 0} (size : A → ℕ) (m : ℕ) (cs : List (Bool × A)) {d : A} → small size m cs ≡ true → size d ≤ m → size (choose cs d) ≤ m
unfolding choose
choose_most size m [] t h = h
choose_most size m ((true, a) ∷ cs) t h = leb-true (size a) m (first_so (leb (size a) m) (small size m cs) t)
choose_most size m ((false, a) ∷ cs) t h = choose_most size m cs (second_so (leb (size a) m) (small size m cs) t) h

-- every test of a list holds just where each does
abbrev pub Every : List Bool → Type 0
Every [] = Unit {0}
Every (b ∷ bs) = (b ≡ true) × Every bs

pub each : (bs : List Bool) → all bs ≡ true → Every bs
unfolding all
each [] e = tt
each (b ∷ bs) e = (first_so b (all bs) e, each bs (second_so b (all bs) e))

pub every : (bs : List Bool) → Every bs → all bs ≡ true
unfolding all
every [] h = refl
every (b ∷ bs) h = rw (h.0, every bs h.1)

-- tests joined from the left, as code does by `&`
pub and-all : (b : Bool) (bs : List Bool) → foldl ◌&&◌ b bs ≡ all (b ∷ bs)
unfolding all
and-all b [] = sym (and-true b)
and-all b (x ∷ xs) = and-all (b && x) xs ∙ and_assoc b x (all xs)

-- a search's turns: it stops here, goes on to the next place, or has passed the last
module _ (i n : ℕ) (p : ℕ → Bool) where
  pub seek_hit : i < n → p i ≡ true → seek i n p ≡ i
  unfolding seek_in
  seek_hit h e = let q : n - i ≡ suc (n - (i + 1)) = omega arith in rw (q, e)

  pub seek-next : i < n → p i ≡ false → seek i n p ≡ seek (i + 1) n p
  unfolding seek_in
  seek-next h e = let q : n - i ≡ suc (n - (i + 1)) = omega arith in rw (q, e, add-one i)

  pub seek_end : n ≤ i → seek i n p ≡ i
  unfolding seek_in
  seek_end h = let q : n - i ≡ 0 = omega arith in rw q

-- what a search of `left` places from i on found: the place lies there, the test holds at it unless it is past them, and at none before it
pub record Sought (left i : ℕ) (p : ℕ → Bool) (r : ℕ) : Type 0 where
  pub from : i ≤ r
  pub most : r ≤ left + i
  pub found : r < left + i → p r ≡ true
  pub missed : (j : ℕ) → i ≤ j → j < r → p j ≡ false

pub sought_in : (left i : ℕ) (p : ℕ → Bool) → Sought left i p (seek_in left i p)
unfolding seek_in
sought_in zero i p = record { from = omega arith; most = omega arith; found = λ h. absurd (omega arith); missed = λ j h l. absurd (omega arith) }
sought_in (suc left) i p = go (p i) refl (sought_in left (suc i) p)
  where
    go : (b : Bool) → p i ≡ b → Sought left (suc i) p (seek_in left (suc i) p) → Sought (suc left) i p (cond b i (seek_in left (suc i) p))
    go true e s = record { from = omega arith; most = omega arith; found = λ h. e; missed = λ j h l. absurd (omega arith) }
    go false e s =
        record {
          from = omega arith;
          most = omega arith;
          found = λ h. s.found (omega arith);
          missed = λ j h l. at_or_after j h l (eqb i j) refl;
        }
      where
        at_or_after : (j : ℕ) → i ≤ j → j < seek_in left (suc i) p → (b : Bool) → eqb i j ≡ b → p j ≡ false
        at_or_after j h l true q = rw (← eqb-true i j q) e
        at_or_after j h l false q = s.missed j (omega (arith, eqb-false i j q)) l

pub sought : (n : ℕ) (p : ℕ → Bool) → Sought n 0 p (seek 0 n p)
sought n p = let e : n - 0 ≡ n = omega arith in rw e (sought_in n 0 p)

-- no place, and some place
pub none_at : (n : ℕ) (p : ℕ → Bool) → some n p ≡ false → (i : ℕ) → i < n → p i ≡ false
none_at n p e i h = (sought n p).missed i (omega arith) (omega (arith, ltb-false (seek 0 n p) n e))

pub some_at : (n : ℕ) (p : ℕ → Bool) (i : ℕ) → i < n → p i ≡ true → some n p ≡ true
some_at n p i h e = go (some n p) refl
  where
    go : (b : Bool) → some n p ≡ b → some n p ≡ true
    go true q = q
    go false q = absurd (false≢true (sym (none_at n p q i h) ∙ e))

pub none_some : (n : ℕ) (p : ℕ → Bool) → ((i : ℕ) → i < n → p i ≡ false) → some n p ≡ false
none_some n p h =
    never (some n p) (λ t.
    let inside = ltb-true (seek 0 n p) n t in
    false≢true (sym (h (seek 0 n p) inside) ∙ (sought n p).found (omega arith)))

-- the library's answer to a search of a range is the first place, where there is one
pub first_found : (n : ℕ) (p : ℕ → Bool) (r : Option ℕ)
    → MatchOption r ((k : ℕ) → 0 ≤ k → k < n → p k ≡ false)
    (λ i. (0 ≤ i) × (i < n) × (p i ≡ true) × ((k : ℕ) → 0 ≤ k → k < i → p k ≡ false))
    → r ≡ cond (some n p) (Some (seek 0 n p)) None
first_found n p None h = rw (none_some n p (λ k l. h k (omega arith) l))
first_found n p (Some i) h =
    let s = sought n p in
    let here : seek 0 n p ≡ i = grind (arith, s.found, s.missed i, h.3 (seek 0 n p)) in
    rw (here, lt-ltb i n h.1)
