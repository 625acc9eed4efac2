-- Where the input's schedule ends: a record at a time, and how the whole input is parted there.
use Prim.Native.Nat.{ℕ, zero, suc, ◌+◌, ◌-◌, ◌≤◌, ◌<◌}
use mathlib.Core.Bool.{Bool, true, false}
use mathlib.Core.List.{List, [], ◌++◌}
use mathlib.Core.Path.{◌≡◌, refl, sym, ap, ◌∙◌}
use native.Mathlib.Nat.{le_refl}
use native.Mathlib.Omega.{arith}
use lib.Dec.{eqb}
use lib.ListN.{length, take, drop, length-append, length-drop}
use lib.Seq.{length-take-le, take-add, drop-drop}
use borrow.Author.Tests.{eqb-true, eqb-false}
use Rattle.wire.specs.Cut.{first_length, cut}
use Rattle.wire.proofs.Cut.{first_in, cut-none, cut-next}
use Rattle.wire.proofs.Lists.{part_lent}
use Rattle.input.specs.Input.{begins_activity, bytes_before, records_from, schedule_of, activity_of}

module _ (S : List ℕ) where
  -- no bytes, no schedule
  pub schedule-none : length S ≡ 0 → schedule_of S ≡ []
  unfolding bytes_before
  schedule-none e = rw (cut-none (length S) S e)

  -- no bytes, no records, and no activity
  activity-none : length S ≡ 0 → cut S ≡ activity_of S
  unfolding records_from
  activity-none e = rw (cut-none (length S) S e)

  module _ (some : 0 < length S) where
    -- a record that begins the activity ends the schedule
    pub schedule_stops : begins_activity (take (first_length S) S) ≡ true → schedule_of S ≡ []
    unfolding bytes_before
    schedule_stops t = rw (cut-next S some, t)

    -- all records from there on are the activity's
    activity-starts : begins_activity (take (first_length S) S) ≡ true → cut S ≡ activity_of S
    unfolding records_from
    activity-starts t = rw (cut-next S some, t)

    -- any other record is the schedule's first
    schedule-next : begins_activity (take (first_length S) S) ≡ false → schedule_of S ≡ take (first_length S) S ++ schedule_of (drop (first_length S) S)
    unfolding bytes_before
    schedule-next t = rw (cut-next S some, t)

    -- any other record is none of the activity's
    activity-next : begins_activity (take (first_length S) S) ≡ false → activity_of (drop (first_length S) S) ≡ activity_of S
    unfolding records_from
    activity-next t = rw (cut-next S some, t)

    -- any other record adds its bytes to the schedule
    pub schedule_longer :
        begins_activity (take (first_length S) S) ≡ false → length (schedule_of S) ≡ first_length S + length (schedule_of (drop (first_length S) S))
    schedule_longer t = rw (schedule-next t, length-append, length-take-le (first_length S) S (first_in S).most)

-- the input falls into its schedule and the bytes of its activity
record Parted (I : List ℕ) : Type 0 where
  first : take (length (schedule_of I)) I ≡ schedule_of I
  rest : cut (drop (length (schedule_of I)) I) ≡ activity_of I
  most : length (schedule_of I) ≤ length I

-- a schedule of no bytes leaves all records to the activity
parted_none : (I : List ℕ) → schedule_of I ≡ [] → cut I ≡ activity_of I → Parted I
parted_none I e a = record { first = rw e; rest = rw e a; most = rw e (omega arith) }

-- a record that is no activity goes before a rest that is parted
parted_next : (S : List ℕ) → 0 < length S → begins_activity (take (first_length S) S) ≡ false → Parted (drop (first_length S) S) → Parted S
parted_next S some t p =
    record {
      first = rw (schedule_longer S some t, take-add, p.first) (sym (schedule-next S some t));
      rest = rw (schedule_longer S some t, ← drop-drop) (p.rest ∙ activity-next S some t);
      most = omega (arith, schedule_longer S some t, p.most, (first_in S).most, length-drop (first_length S) S);
    }

-- any run is parted: as much fuel as bytes is enough, for each record has a byte
parted_in : (fuel : ℕ) (S : List ℕ) → length S ≤ fuel → Parted S
parted_in zero S h = parted_none S (schedule-none S (omega arith)) (activity-none S (omega arith))
parted_in (suc fuel) S h = go (eqb (length S) 0) (begins_activity (take (first_length S) S)) refl refl (parted_in fuel (drop (first_length S) S))
  where
    go : (b t : Bool) → eqb (length S) 0 ≡ b → begins_activity (take (first_length S) S) ≡ t
        → (length (drop (first_length S) S) ≤ fuel → Parted (drop (first_length S) S)) → Parted S
    go true t e s later = let none = eqb-true (length S) 0 e in parted_none S (schedule-none S none) (activity-none S none)
    go false true e s later =
        let some : 0 < length S = omega (arith, eqb-false (length S) 0 e) in
        parted_none S (schedule_stops S some s) (activity-starts S some s)
    go false false e s later =
        let some : 0 < length S = omega (arith, eqb-false (length S) 0 e) in
        parted_next S some s (later (omega (arith, (first_in S).some some, length-drop (first_length S) S)))

-- the input is parted where its schedule ends
module _ (I : List ℕ) {end : ℕ} (e : end ≡ length (schedule_of I)) where
  parted : Parted I
  parted = parted_in (length I) I (le_refl _)

  -- the schedule is the input's first bytes
  pub schedule_first : take end I ≡ schedule_of I
  schedule_first = rw e parted.first

  -- the bytes after it, as `&input[end..]` lends them, are cut into the activity's records
  pub activity_rest : cut (take (length I - end) (drop end I)) ≡ activity_of I
  activity_rest = ap cut (part_lent end I) ∙ ap (λ (n : ℕ). cut (drop n I)) e ∙ parted.rest

  -- it is no longer than the input
  pub schedule_most : end ≤ length I
  schedule_most = rw e parted.most

pub schedule_within : (I : List ℕ) → length (schedule_of I) ≤ length I
schedule_within I = schedule_most I refl
