-- The score beside document 01's formula (document 02, 2.2). Proved in proofs/Laws.antt: of any bytes.
-- Assumes nothing.
use Rattle.std.specs.Prelude.{ℕ, ◌+◌, ◌*◌, List, ◌≡◌}
use Rattle.activity.specs.Activity.{modifications, cancellations, fak_fok, mass_requests, mass_reports, minimum_quantity, score}

-- document 01's formula ("The day's verdict"), without minimum-quantity orders
abbrev pub formula : (R : List ℕ) → ℕ
formula R = modifications R + 3 * (cancellations R + fak_fok R + mass_requests R + mass_reports R)

-- 2.2: score gains 3 × minimum-quantity orders
abbrev pub ScoreGains : (R : List ℕ) → Type 0
ScoreGains R = score R ≡ formula R + 3 * minimum_quantity R
