-- Sweeps as texts (this project's own format).
use Rattle.std.specs.Prelude.{ℕ, ◌==◌, ◌+◌, ◌^◌, nat_lt, nat_le, ◌&&◌, List, take, drop, Option}
use Rattle.std.specs.Prelude.{Some, None, option_and_then, if◌then◌else◌}
use Rattle.std.specs.List.{position}
use Rattle.text_numbers.specs.Numerals.{number_of}
use Rattle.explore_sweeps.specs.declared.Sweep.{Sweep}

infixl 10 ◌>>=◌
abbrev pub ◌>>=◌ : {A B : Type 0} → Option A → (A → Option B) → Option B
found >>= f = option_and_then f found

-- the sweep of a range
abbrev pub sweep_within : ℕ → ℕ → Option Sweep
sweep_within lo hi =
    if nat_le lo hi && nat_le hi (2 ^ 64) && nat_lt lo (2 ^ 64)
    then Some (record { lo = lo; hi = hi }) else None

-- the sweep that a text `LO,HI` writes
unfoldable pub sweep_of : List ℕ → Option Sweep
sweep_of text = do
  comma ← position (λ b. b == 0x2C) text
  lo ← number_of (take comma text)
  hi ← number_of (drop (comma + 1) text)
  sweep_within lo hi
