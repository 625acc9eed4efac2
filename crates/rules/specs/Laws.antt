-- What follows from the rules, whatever the constants, if their factors do not grow with the tier; which sets of constants are so; and, last, what the panel's
-- number tells.
-- Proved in proofs/Laws.antt.
-- Assumes nothing.
use Rattle.std.specs.Prelude.{ℕ, ◌+◌, ◌*◌, ◌/◌, ◌%◌, ◌≤◌, ◌<◌, Bool, true, cond, ◌&&◌, ◌≡◌, ltb, eqb}
use Rattle.rules.specs.Constants.{is_lawful, Falling, clamped}
use Rattle.rules.specs.Verdict.{version96, tier_factor, exceeds, verdict, is_violation, is_severe, is_refused, decided, refusal, days_verdict, number_of, panel_number}
use Rattle.rules.specs.Month.{Terms, DailyTotals, exempt}
use Rattle.rules.specs.Marks.{Judged, judged, violations, mark_without_grants, mark, marked, billed, amount}
use Rattle.rules.specs.Lighter.{Lighter, LighterMonth, LighterWithDaysOff, NoSevereNamed}
use Rattle.rules.specs.declared.Rules.{Rules}
use Rattle.rules.specs.declared.Totals.{Totals}
use Rattle.rules.specs.declared.Verdict.{Verdict}

-- the code n' is no worse than n: a violation only where n is one, and severe only where n is
pub record NoWorse (n' n : ℕ) : Type 0 where
  pub violation : is_violation n' ≡ true → is_violation n ≡ true
  pub severe : is_severe n' ≡ true → is_severe n ≡ true

pub record Laws (P : Rules) : Type 0 where
  -- a day fails exactly when it has more messages than the first edge and its score exceeds its tier's benchmark times its lots
  pub fails : (B d : ℕ) (t : Totals) → is_violation (verdict P B d t).code ≡ ltb (P.edge1 * d) t.raw && exceeds P B d t
  -- and is severe when the score also exceeds the severe multiple of that
  pub severe : (B d : ℕ) (t : Totals) → is_severe (verdict P B d t).code ≡ ltb (P.edge1 * d) t.raw && (exceeds P B d t && exceeds P (P.severe * B) d t)
  -- 2.1: above the first edge m is the tier's factor, pass or fail; else it is 0
  pub factor : (B d : ℕ) (t : Totals) → (verdict P B d t).factor ≡ cond (ltb (P.edge1 * d) t.raw) (tier_factor P d t.raw) 0
  -- lighter traffic is no worse a code
  pub lighter_code : (B d : ℕ) (t' t : Totals) → Lighter t' t → NoWorse (verdict P B d t').code (verdict P B d t).code
  -- it keeps an exemption
  pub lighter_exempt : (s : Terms) (c' c : DailyTotals) → LighterMonth s c' c → (g : ℕ) → g < s.groups → exempt P s c g ≡ true → exempt P s c' g ≡ true
  -- and so does not raise the amount, in any grouping; 2.6: where the grants are the same, and name no place that was severe
  pub lighter_amount : (s : Terms) (c' c : DailyTotals) (named : (i : ℕ) → Bool) → LighterMonth s c' c → NoSevereNamed (judged P s c named) → (e : ℕ)
      → amount P (judged P s c' named) e ≤ amount P (judged P s c named) e
  -- 2.10: so do days off, without lots and of at least the group's average, where every other cell falls
  pub off_exempt : (s : Terms) (off : (g day : ℕ) → Bool) (c' c : DailyTotals) → LighterWithDaysOff s off c' c → (g : ℕ) → g < s.groups
      → exempt P s c g ≡ true → exempt P s c' g ≡ true
  -- and they do not raise the amount
  pub off_amount : (s : Terms) (off : (g day : ℕ) → Bool) (c' c : DailyTotals) (named : (i : ℕ) → Bool) → LighterWithDaysOff s off c' c
      → NoSevereNamed (judged P s c named) → (e : ℕ) → amount P (judged P s c' named) e ≤ amount P (judged P s c named) e
  -- 2.6: a grant frees no waiver: the same places have mark 3, and the same have mark 4, as without grants
  pub frees_none : (j : Judged) (i : ℕ) → (eqb (mark P j i) 3 ≡ eqb (mark_without_grants P j i) 3) × (eqb (mark P j i) 4 ≡ eqb (mark_without_grants P j i) 4)
  -- violations = monthly + automatic + granted + billed: the sum of all five marks
  pub adds_up : (j : Judged) (e : ℕ) → violations j e ≡ marked P j e 3 + marked P j e 4 + marked P j e 5 + billed P j e
  -- and the amount is that of the billed
  pub dollars : (j : Judged) (e : ℕ) → amount P j e ≡ P.dollars * billed P j e

-- 2.9: one result covers every lawful set
pub record LawfulSets : Type 0 where
  pub laws : (P : Rules) → is_lawful P ≡ true → Laws P
  -- its factors do not grow
  pub falls : (P : Rules) → is_lawful P ≡ true → Falling P
  -- it judges as it stands
  pub as_it_is : (P : Rules) → is_lawful P ≡ true → clamped P ≡ P
  -- and a day costs at most 10,000 dollars under it
  pub most_dollars : (P : Rules) → is_lawful P ≡ true → P.dollars ≤ 10000
  -- version 9.6's numbers are one
  pub of_96 : is_lawful version96 ≡ true

-- the verdict that is read back from the panel's number
abbrev pub read_back : (n : ℕ) → Verdict
read_back n = record { code = n / 10; factor = n % 10 }

pub record Panel : Type 0 where
  -- 2.1: no pair of version 9.6 has the number 24
  pub never_24 : (B d : ℕ) (t : Totals) → number_of (verdict version96 B d t) ≡ 24 → ⊥
  -- and code and factor can be read back from its number
  pub pair : (B d : ℕ) (t : Totals) → read_back (number_of (verdict version96 B d t)) ≡ verdict version96 B d t
  -- so the panel's number is 24 where the day is refused, and nowhere else
  pub refused : (t : Totals) (B : ℕ) → eqb (panel_number t B) 24 ≡ is_refused 1 t B
  -- one day is never too many: the verdict on one day is read back from the panel's number
  pub one_day : (t : Totals) (B : ℕ) → days_verdict version96 1 t B ≡ cond (is_refused 1 t B) (refusal (panel_number t B)) (decided (read_back (panel_number t B)))
