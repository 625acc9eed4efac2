-- Computed examples of sets of constants (document 02, 2.9): which are in range (37) and in order (38), and days that one judges.
-- Assumes nothing.
use Rattle.std.specs.Prelude.{true, false, ◌≡◌, refl}
use Rattle.wire.specs.Choose.{choose, all}
use Rattle.rules.specs.Verdict.{version96, verdict, severe_sides, is_violation}
use Rattle.rules.specs.Month.{is_exempt}
use Rattle.rules.specs.Marks.{cost}
use Rattle.rules.specs.Constants.{in_range, in_order, clamped}
use Rattle.rules.specs.declared.Rules.{Rules}

-- the least of every range and the greatest, each with equal factors; edges that start at 0, and ones that end at 1,000,000
abbrev least : Rules
least = record { edge1 = 0; edge2 = 1; edge3 = 2; factor1 = 1; factor2 = 1; factor3 = 1; severe = 1; waivers = 0; dollars = 1 }

abbrev greatest : Rules
greatest =
    record {
      edge1 = 999998;
      edge2 = 999999;
      edge3 = 1000000;
      factor1 = 10;
      factor2 = 10;
      factor3 = 10;
      severe = 20;
      waivers = 99;
      dollars = 10000;
    }

-- a set of its own: edges 100, 200 and 300, factors 10, 7 and 7, severe multiple 2, three waivers, 500 dollars
abbrev pub own : Rules
own = record { edge1 = 100; edge2 = 200; edge3 = 300; factor1 = 10; factor2 = 7; factor3 = 7; severe = 2; waivers = 3; dollars = 500 }

-- a set that 38 refuses
abbrev rising : Rules
rising = record version96 { factor1 = 1; factor2 = 3 }

pub record Sets : Type 0 where
  pub least_in : in_range least ≡ true
  pub least_ordered : in_order least ≡ true
  pub greatest_in : in_range greatest ≡ true
  pub greatest_ordered : in_order greatest ≡ true
  -- one past an end of its range
  pub edge_past : in_range (record version96 { edge3 = 1000001 }) ≡ false
  pub first_edge_past : in_range (record version96 { edge1 = 1000001 }) ≡ false
  pub factor_0 : in_range (record version96 { factor3 = 0 }) ≡ false
  pub factor_11 : in_range (record version96 { factor1 = 11 }) ≡ false
  pub middle_11 : in_range (record version96 { factor2 = 11 }) ≡ false
  pub severe_0 : in_range (record version96 { severe = 0 }) ≡ false
  pub severe_21 : in_range (record version96 { severe = 21 }) ≡ false
  pub waivers_100 : in_range (record version96 { waivers = 100 }) ≡ false
  pub dollars_0 : in_range (record version96 { dollars = 0 }) ≡ false
  pub dollars_10001 : in_range (record version96 { dollars = 10001 }) ≡ false
  -- equal edges, falling ones, and a factor above the one before it; the ranges do not ask that
  pub equal_low : in_order (record version96 { edge2 = 20000 }) ≡ false
  pub equal_high : in_order (record version96 { edge3 = 40000 }) ≡ false
  pub falling_edges : in_order (record version96 { edge3 = 30000 }) ≡ false
  pub rising_low : in_order (record version96 { factor2 = 4 }) ≡ false
  pub rising_high : in_order (record version96 { factor3 = 3 }) ≡ false
  pub equal_in_range : in_range (record version96 { edge2 = 20000 }) ≡ true
  pub rising_in_range : in_range (record version96 { factor3 = 3 }) ≡ true
  -- at an edge the lower tier; a pass keeps code 3, 2 or 1 by tier, with the set's factor beside it
  pub not_judged : verdict own 1000 1 (record { raw = 100; score = 900; lots = 0 }) ≡ record { code = 0; factor = 0 }
  pub low_pass : verdict own 1000 1 (record { raw = 200; score = 1000; lots = 10 }) ≡ record { code = 3; factor = 10 }
  pub middle_pass : verdict own 1000 1 (record { raw = 300; score = 700; lots = 10 }) ≡ record { code = 2; factor = 7 }
  pub high_pass : verdict own 1000 1 (record { raw = 301; score = 700; lots = 10 }) ≡ record { code = 1; factor = 7 }
  -- ordinary up to twice its bound, severe above
  pub ordinary : verdict own 1000 1 (record { raw = 301; score = 1400; lots = 10 }) ≡ record { code = 4; factor = 7 }
  pub severe : verdict own 1000 1 (record { raw = 301; score = 1401; lots = 10 }) ≡ record { code = 5; factor = 7 }
  pub sides : severe_sides own 1000 1 (record { raw = 301; score = 1401; lots = 10 }) ≡ record { scored = 140100; allowed = 140000 }
  -- an edge of 0 judges a day with one message, and none without
  pub no_message : verdict least 1000 1 (record { raw = 0; score = 3; lots = 0 }) ≡ record { code = 0; factor = 0 }
  pub one_message : verdict least 1000 1 (record { raw = 1; score = 3; lots = 0 }) ≡ record { code = 5; factor = 1 }
  -- why no factor may be above the one before it: with 1 and 3 a day fails that would pass with a message more
  pub fewer_fails : is_violation (verdict rising 1000 1 (record { raw = 40000; score = 20; lots = 1 })).code ≡ true
  pub more_passes : is_violation (verdict rising 1000 1 (record { raw = 40001; score = 20; lots = 1 })).code ≡ false
  -- a month of two days: at its first edge, and at its bound above it
  pub month_at_edge : is_exempt own 1000 2 (record { raw = 200; score = 9000; lots = 0 }) ≡ true
  pub month_at_bound : is_exempt own 1000 2 (record { raw = 201; score = 1000; lots = 10 }) ≡ true
  pub month_above : is_exempt own 1000 2 (record { raw = 201; score = 1001; lots = 10 }) ≡ false
  pub billed_cost : cost own 2 ≡ 500
  -- numbers of no lawful set are brought down
  pub brought_down : clamped (record version96 { factor1 = 11; severe = 65535 }) ≡ record version96 { factor1 = 10; severe = 20 }
  pub as_it_is : clamped greatest ≡ greatest

pub sets : Sets
unfolding in_range in_order all choose verdict
sets =
    record {
      least_in = refl;
      least_ordered = refl;
      greatest_in = refl;
      greatest_ordered = refl;
      edge_past = refl;
      first_edge_past = refl;
      factor_0 = refl;
      factor_11 = refl;
      middle_11 = refl;
      severe_0 = refl;
      severe_21 = refl;
      waivers_100 = refl;
      dollars_0 = refl;
      dollars_10001 = refl;
      equal_low = refl;
      equal_high = refl;
      falling_edges = refl;
      rising_low = refl;
      rising_high = refl;
      equal_in_range = refl;
      rising_in_range = refl;
      not_judged = refl;
      low_pass = refl;
      middle_pass = refl;
      high_pass = refl;
      ordinary = refl;
      severe = refl;
      sides = refl;
      no_message = refl;
      one_message = refl;
      fewer_fails = refl;
      more_passes = refl;
      month_at_edge = refl;
      month_at_bound = refl;
      month_above = refl;
      billed_cost = refl;
      brought_down = refl;
      as_it_is = refl;
    }
