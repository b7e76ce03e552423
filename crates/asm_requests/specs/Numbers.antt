-- The numbers of requests, which are those of listings.
use Rattle.std.specs.Prelude.{ℕ, ◌-◌, ◌%◌, ◌^◌, ◌==◌, nat_le, Bool, ◌&&◌, if◌then◌else◌, List}
use Rattle.std.specs.Prelude.{length, drop, slice_index, Option, Some, None, option_map}
use Rattle.cheri_model.specs.declared.memory.TheConstants.{MAX_RAM_BYTES}
use Rattle.text_numbers.specs.Numerals.{number_of, within_128_bits}
use Rattle.asm_capabilities.specs.Capabilities.{is_stack_size}
use Rattle.asm_requests.specs.Steps.{◌>>=◌}

-- a number in its range; none where it has more than 128 bits, which are beyond every range
abbrev pub in_range : ℕ → Option (Option ℕ) → Option ℕ
in_range limit (Some (Some n)) = if nat_le n limit then Some n else None
in_range limit (Some None) = None
in_range limit None = None

unfoldable pub number_up_to : ℕ → List ℕ → Option ℕ
number_up_to limit text = in_range limit (option_map within_128_bits (number_of text))

abbrev pub begins : ℕ → List ℕ → Bool
begins b text = nat_le 1 (length text) && (slice_index text 0 == b)

abbrev pub negated : ℕ → ℕ
negated n = (2 ^ 64 - n) % 2 ^ 64

-- an integer of 64 bits, from -2^63 to 2^64 - 1
unfoldable pub integer_of : List ℕ → Option ℕ
integer_of text =
    if begins 0x2D text then option_map negated (number_up_to (2 ^ 63) (drop 1 text))
    else number_up_to (2 ^ 64 - 1) text

-- the bytes of a stack, 0 for none
unfoldable pub stack_of : List ℕ → Option ℕ
stack_of text = do
  size ← number_up_to MAX_RAM_BYTES text
  if is_stack_size size then Some size else None
