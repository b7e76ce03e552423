-- The numbers that arguments write.
use Rattle.std.specs.Prelude.{ℕ, nat_le, ◌&&◌, if◌then◌else◌, Option, Some, None, option_and_then}
use Rattle.clap.specs.Words.{Text}
use Rattle.text_numbers.specs.Numerals.{number_in}

-- a number from a least one to a greatest one
abbrev pub within : ℕ → ℕ → ℕ → Option ℕ
within least greatest number =
    if nat_le least number && nat_le number greatest then Some number else None

-- the number in such bounds that decimal digits write
unfoldable pub decimal_within : ℕ → ℕ → Text → Option ℕ
decimal_within least greatest arg = option_and_then (within least greatest) (number_in 10 arg)

-- the number in such bounds that an option gives, or what holds where it isn't there
abbrev pub number_or : ℕ → ℕ → ℕ → Option Text → Option ℕ
number_or otherwise least greatest None = Some otherwise
number_or otherwise least greatest (Some arg) = decimal_within least greatest arg
