-- Laws of tests that are joined, negated, or branched on.
use Prim.Native.Nat.{ℕ, ◌≤◌}
use mathlib.Core.Bool.{Bool, true, false, cond, not, ◌&&◌}
use mathlib.Core.Path.{◌≡◌, refl, sym, ◌∙◌}
use native.Mathlib.Nat.{le_refl}
use lib.Dec.{leb, ltb}
use borrow.Author.Tests.{not-true, leb-true, leb-false, le-leb, le-ltb, lt-ltb}
use Rattle.std.specs.Cmp.{first_so, second_so}
use Rattle.wire.specs.Choose.{within}

-- a test that cannot hold fails
pub never : (b : Bool) → (b ≡ true → ⊥) → b ≡ false
never true h = absurd (h refl)
never false h = refl

-- which side of a choice an answer shows
pub cond-true : {A : Type 0} (b : Bool) (a d : A) {r : A} → cond b a d ≡ r → (d ≡ r → ⊥) → true ≡ b
cond-true true a d e n = refl
cond-true false a d e n = absurd (n e)

pub cond-false : {A : Type 0} (b : Bool) (a d : A) {r : A} → cond b a d ≡ r → (a ≡ r → ⊥) → false ≡ b
cond-false true a d e n = absurd (n e)
cond-false false a d e n = refl

pub cond_le : (t : Bool) {a b n : ℕ} → a ≤ n → b ≤ n → cond t a b ≤ n
cond_le true ha hb = ha
cond_le false ha hb = hb

pub cond-and : (a b : Bool) (n : ℕ) → cond a (cond b n 0) 0 ≡ cond (a && b) n 0
cond-and true b n = refl
cond-and false b n = refl

-- a value that counts only where the test holds
pub cond_where : (p : Bool) {x y : ℕ} → (p ≡ true → x ≤ y) → cond p x 0 ≤ cond p y 0
cond_where true h = h refl
cond_where false h = le_refl 0

pub ltb-leb : (a b : ℕ) → ltb b a ≡ not (leb a b)
ltb-leb a b = go (leb a b) refl
  where
    go : (x : Bool) → leb a b ≡ x → ltb b a ≡ not x
    go true e = le-ltb b a (leb-true a b e)
    go false e = lt-ltb b a (leb-false a b e)

-- what a callee's flag r told of the test t that it answers, where the code branched on `!r`
pub no : {r t : Bool} → r ≡ t → not r ≡ true → t ≡ false
no {r} e f = sym e ∙ not-true r f

-- a number within a range, and the range of a number
pub in_range : (lo hi x : ℕ) → lo ≤ x → x ≤ hi → within lo hi x ≡ true
in_range lo hi x l h = rw (le-leb lo x l, le-leb x hi h)

pub record Range (lo hi x : ℕ) : Type 0 where
  pub least : lo ≤ x
  pub most : x ≤ hi

pub range : (lo hi x : ℕ) → within lo hi x ≡ true → Range lo hi x
range lo hi x e = record { least = leb-true lo x (first_so (leb lo x) (leb x hi) e); most = leb-true x hi (second_so (leb lo x) (leb x hi) e) }
