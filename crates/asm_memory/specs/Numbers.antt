-- Numbers in memory.
use Rattle.std.specs.Prelude.{ℕ, ◌+◌, ◌*◌, ◌/◌, ◌%◌, ◌^◌, nat_le, nat_lt, Bool, ◌||◌, List, take}
use Rattle.std.specs.Int.{w64, to_le_bytes}
use Rattle.cap_model.specs.values.CapValue.{CapValue}
use Rattle.asm_memory.specs.Memory.{bytes_put}

-- of n bytes, below 8: from -2^(8n-1) to 2^(8n) - 1, in two's complement
unfoldable pub is_in_width : ℕ → ℕ → Bool
is_in_width width value =
    nat_le 8 width
    || nat_lt ((value + 2 ^ (8 * width) / 2) % 2 ^ 64) (2 ^ (8 * width) + 2 ^ (8 * width) / 2)

-- the lowest bytes of a number, the least significant first
unfoldable pub number_bytes : ℕ → ℕ → List ℕ
number_bytes width value = take width (to_le_bytes w64 value)

unfoldable pub number_put : List CapValue → ℕ → ℕ → ℕ → List CapValue
number_put memory addr width value = bytes_put memory addr (number_bytes width value)
