-- The registers of a hart that something sets, c1 to c31.
use Rattle.std.specs.Prelude.{ℕ, ◌-◌, ◌==◌, Bool, true, false, if◌then◌else◌, List, replicate}
use Rattle.std.specs.Prelude.{slice_index_or, slice_set}
use Rattle.cap_model.specs.values.CapValue.{CapValue, raw}
use Rattle.asm_harts.specs.declared.registers.Registers.{Registers}

abbrev pub no_registers : Registers
no_registers = record { values = replicate 31 (raw 0); set = replicate 31 false }

-- whether a register is set; register 0 is never
unfoldable pub is_set : Registers → ℕ → Bool
is_set registers register =
    if register == 0 then false else slice_index_or registers.set (register - 1) false

-- a register set to a value; register 0 stays null
unfoldable pub with_register : Registers → ℕ → CapValue → Registers
with_register registers register value =
    if register == 0 then registers
    else
    record {
      values = slice_set registers.values (register - 1) value;
      set = slice_set registers.set (register - 1) true;
    }

-- the same, unless the register is set already
unfoldable pub or_register : Registers → ℕ → CapValue → Registers
or_register registers register value =
    if is_set registers register then registers else with_register registers register value
