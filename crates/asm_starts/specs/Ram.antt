-- The size of RAM.
use Rattle.std.specs.Prelude.{ℕ, ◌+◌, ◌-◌, ◌%◌, ◌^◌, ◌==◌, nat_le, nat_lt, Bool, ◌&&◌}
use Rattle.std.specs.Prelude.{if◌then◌else◌, Option, Some, None}
use Rattle.cheri_model.specs.declared.memory.TheConstants.{RAM_BASE, GRANULE_BYTES, MAX_RAM_BYTES}
use Rattle.asm_layout.specs.Layout.{memory_size}

-- how many bytes are taken, up to an address
unfoldable pub taken : ℕ → ℕ
taken memory_end = (memory_end + (2 ^ 64 - RAM_BASE)) % 2 ^ 64

-- the size where no request says it
unfoldable pub default_ram : ℕ → Option ℕ
default_ram memory_end =
    if nat_lt MAX_RAM_BYTES (memory_size (taken memory_end)) then None
    else Some (memory_size (taken memory_end))

-- a multiple of 16 that RAM can have, and that holds what is taken
unfoldable pub is_enough : ℕ → ℕ → Bool
is_enough size memory_end =
    nat_le GRANULE_BYTES size && nat_le size MAX_RAM_BYTES && (size % GRANULE_BYTES == 0)
    && nat_le (taken memory_end) size

abbrev pub asked_ram : Option ℕ → ℕ → Option ℕ
asked_ram (Some size) memory_end = if is_enough size memory_end then Some size else None
asked_ram None memory_end = None
