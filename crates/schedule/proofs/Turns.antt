-- Laws of `scan`: what one turn of the check's loop does, and that the place stays in bounds.
use Prim.Native.Nat.{ℕ, zero, suc, ◌+◌, ◌-◌, ◌≤◌, ◌<◌}
use mathlib.Core.Bool.{true, false, false≢true}
use mathlib.Core.List.{List}
use mathlib.Core.Path.{◌≡◌, refl}
use native.Mathlib.Omega.{arith}
use lib.ListN.{length}
use borrow.Author.Tests.{le-leb, lt-leb, eq-eqb, ne_eqb, eqb-true, eqb-false, ltb-false, not-false}
use Rattle.wire.proofs.Choose.{here, next, done, chosen, passed}
use Rattle.records.specs.Bodies.{length_at, body_at, head_size, constants_size, firm_size}
use Rattle.refusals.specs.Outcome.{refused}
use Rattle.schedule.specs.Check.{kind_here, is_due, length_ok, is_full, constants_in_range, constants_in_order, fields_ok, is_repeated, cause, with_record, after, ending, Fine, scan}
use Rattle.schedule.specs.declared.scan.Cursor.{Cursor}
use Rattle.schedule.specs.declared.scan.Kind.{Kind}
use Rattle.schedule.specs.declared.scan.Kind.TheVariants as kind
use Rattle.schedule.proofs.Numbers.{length_bounds}

-- what a record that no cause refuses has passed
pub record Taken (S : List ℕ) (p : Cursor) : Type 0 where
  pub due : is_due (kind_here S p) p ≡ true
  pub sized : length_ok (kind_here S p) (length_at S p.at) ≡ true
  pub fits : length_at S p.at ≤ length S - p.at
  pub room : is_full (kind_here S p) p.held ≡ false
  pub ranged : constants_in_range (kind_here S p) (body_at S p.at) ≡ true
  pub ordered : constants_in_order (kind_here S p) (body_at S p.at) ≡ true
  pub fields : fields_ok (kind_here S p) (body_at S p.at) ≡ true
  pub new : is_repeated (kind_here S p) S p.held (body_at S p.at) ≡ false

module _ (S : List ℕ) (p : Cursor) where
  pub taken : cause S p ≡ 0 → Taken S p
  unfolding cause
  taken z =
      let h = passed _ refl z in
      let b = h.1.1.1.1 in
      let f = b.1.1.1 in
      record {
        due = not-false _ h.1.0;
        sized = not-false _ h.1.1.0;
        fits = ltb-false _ _ h.1.1.1.0;
        room = b.0;
        ranged = not-false _ b.1.0;
        ordered = not-false _ b.1.1.0;
        fields = not-false _ f.0;
        new = f.1.0;
      }

  -- the three ways of a turn
  pub scan_end : (n : ℕ) → 0 < n → length S ≤ p.at → scan S n p ≡ ending S p.held
  unfolding scan
  scan_end zero h l = absurd (omega arith)
  scan_end (suc n) h l = chosen (here (le-leb _ _ l))

  pub scan_refused : (n : ℕ) → 0 < n → p.at < length S → (cause S p ≡ 0 → ⊥) → scan S n p ≡ refused (cause S p) p.at
  unfolding scan
  scan_refused zero h l z = absurd (omega arith)
  scan_refused (suc n) h l z = chosen (next (lt-leb _ _ l) (next (ne_eqb _ _ z) done))

  pub scan_next : (n : ℕ) → 0 < n → p.at < length S → cause S p ≡ 0 → scan S n p ≡ scan S (n - 1) (after S p)
  unfolding scan
  scan_next zero h l z = absurd (omega arith)
  scan_next (suc n) h l z = let q : suc n - 1 ≡ n = omega arith in rw q (chosen (next (lt-leb _ _ l) (here (eq-eqb _ _ z))))

  -- a record that is not refused leads to a place further on, in bounds again
  further : (k : Kind) → is_due k p ≡ true → length_ok k (length_at S p.at) ≡ true → length_at S p.at ≤ length S - p.at
      → is_full k p.held ≡ false → p.at < length S → Fine S p
      → Fine S (record { at = p.at + length_at S p.at; held = with_record k (body_at S p.at) (p.at + length_at S p.at) p.held })
  unfolding is_due length_ok is_full with_record
  further kind.Head due sized fits full l fine = omega (arith, eqb-true p.at 0 due, eqb-true (length_at S p.at) head_size sized)
  further kind.Constants due sized fits full l fine = omega (arith, eqb-true p.at head_size due, eqb-true (length_at S p.at) constants_size sized)
  further kind.Group due sized fits full l fine =
      omega (arith, length_bounds kind.Group (length_at S p.at) sized, eqb-false p.held.groups 32 full)
  further kind.Firm due sized fits full l fine =
      omega (arith, eqb-true (length_at S p.at) firm_size sized, eqb-false p.held.firms 200 full)
  further kind.Other due sized fits full l fine = absurd (false≢true due)

  pub accepted : p.at < length S → cause S p ≡ 0 → Fine S p → Fine S (after S p) × (p.at < (after S p).at)
  accepted l z fine =
      let t = taken z in
      (further _ t.due t.sized t.fits t.room l fine, omega (arith, length_bounds _ _ t.sized))
