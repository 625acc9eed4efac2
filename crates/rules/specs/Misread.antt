-- The readings that mislead (document 01, "Readings that mislead", and document 02, 2.6): computed examples that each of them gets wrong. (Dividing
-- first: the ninth marked day of Marked.antt.)
-- Assumes nothing.
use Rattle.std.specs.Prelude.{false, cond, not, [], ◌∷◌, ◌≡◌, refl, ltb, eqb}
use Rattle.wire.specs.Choose.{choose, within}
use Rattle.wire.specs.Lists.{joined, table}
use Rattle.wire.specs.Sums.{sum}
use Rattle.rules.specs.Verdict.{version96, verdict}
use Rattle.rules.specs.Month.{Terms, DailyTotals, exempt}
use Rattle.rules.specs.Marks.{Judged, no_grants, mark}

-- six times B without m: a day of the lowest tier whose score is above six times B × lots, and not above six times B × 3 × lots, is ordinary
pub ordinary_day : verdict version96 1000 1 (record { raw = 30000; score = 100000; lots = 1000 }) ≡ record { code = 4; factor = 3 }
unfolding verdict choose
ordinary_day = refl

-- averaging over all days in effect, or adding lots of days without messages: days 1 and 2 are in effect; on day 2 there are lots and no messages
abbrev terms : Terms
terms = record { groups = 1; in_effect = within 1 2; benchmark = λ g. 1000; grouping = λ g. 1 }

abbrev cells : DailyTotals
cells g day = cond (eqb day 1) (record { raw = 20001; score = 3; lots = 0 }) (record { raw = 0; score = 0; lots = 1000 })

-- day 2 is no counted day, and its lots are not summed: either would exempt the month
pub quiet_day : exempt version96 terms cells 0 ≡ false
unfolding sum choose
quiet_day = refl

-- waivers before the monthly exemption, or exempting a severe day: a severe and an ordinary violation of an exempt group, three more ordinary ones, and one of the other grouping
abbrev six : Judged
six =
    record {
      verdict = λ i. record { code = cond (eqb i 0) 5 4; factor = 1 };
      exempt = λ i. ltb i 2;
      grouping = λ i. cond (ltb i 5) 1 2;
      named = no_grants;
    }

pub six-marks : table 6 (mark version96 six) ≡ 1 ∷ 3 ∷ 4 ∷ 4 ∷ 2 ∷ 4 ∷ []
unfolding joined sum choose
six-marks = refl

-- 2.6: grants before the automatic waivers, or one that frees a waiver: a grant names every place but the fourth. The severe one and the billed one have
-- mark 5; those that were exempt or waived keep their marks, and the fourth has the second waiver as before
abbrev six_named : Judged
six_named = record six { named = λ i. not (eqb i 3) }

pub named-marks : table 6 (mark version96 six_named) ≡ 5 ∷ 3 ∷ 4 ∷ 4 ∷ 5 ∷ 4 ∷ []
unfolding joined sum choose
named-marks = refl
