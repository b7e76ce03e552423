-- Multiples and least numbers: the whole-number words that the definitions of bounds are made of.
use Rattle.std.specs.Prelude.{ℕ, ◌+◌, ◌-◌, ◌*◌, ◌/◌, ◌%◌, Bool, if◌then◌else◌}
use Rattle.std.proofs.Common.{zero, suc}

-- the greatest multiple of g that is at most n
abbrev pub round_down : ℕ → ℕ → ℕ
round_down g n = n / g * g

-- the least multiple of g that is at least n, for g above 0
abbrev pub round_up : ℕ → ℕ → ℕ
round_up g n = (n + (g - 1)) / g * g

-- the least number that passes the test, of the `tries` numbers from k on; k + tries where none
-- passes
unfoldable pub first_from : (ℕ → Bool) → ℕ → ℕ → ℕ
first_from test zero k = k
first_from test (suc tries) k =
    let later = first_from test tries (suc k) in
    if test k then k else later

-- the greatest number at most n that is congruent to c modulo s, for c below s and n at least s
abbrev pub congruent_below : ℕ → ℕ → ℕ → ℕ
congruent_below s c n = n - (n + (s - c)) % s
