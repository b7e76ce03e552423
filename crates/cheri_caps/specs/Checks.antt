-- The machine's checks with memory and code in any range, and what C gets of a verdict.
use Rattle.std.specs.Prelude.{ℕ, ◌+◌, ◌*◌, ◌%◌, ◌^◌, ◌==◌, nat_le, Bool, ◌&&◌, not, List, [], ◌∷◌}
use Rattle.std.specs.Prelude.{◌++◌, take, Option, Result, Ok, Err}
use Rattle.std.specs.Prelude.{if◌then◌else◌}
use Rattle.cap_model.specs.values.CapValue.{CapValue, raw}
use Rattle.cap_model.specs.results.Addresses.{address_of, inc_offset, set_address}
use Rattle.cap_model.specs.results.Seals.{unsealed, seal_entry}
use Rattle.cheri_model.specs.declared.access.Access.{Access}
use Rattle.cheri_model.specs.declared.code.TheConstants.{CODE_BASE, INSTRUCTION_BYTES}
use Rattle.cheri_model.specs.declared.memory.TheConstants.{RAM_BASE, GRANULE_BYTES}
use Rattle.cheri_model.specs.declared.trace.Trap.{Trap}
use Rattle.cheri_model.specs.declared.trace.TheConstants.Trap as cause
use Rattle.cheri_model.specs.declared.width.Width.{Width}
use Rattle.cheri_model.specs.declared.width.Width.TheVariants.{Byte, Half, Word, Double}
use Rattle.cheri_model.specs.steps.Actions.{even}
use Rattle.cheri_model.specs.steps.Checks.{CheckLine, check_line, size_of}
use Rattle.cheri_model.specs.steps.Checks.{access_table, fetch_table, jump_table, invoke_table}
use Rattle.cheri_caps.specs.Structs.{struct_of}
use Rattle.cheri_caps.specs.declared.structs.CheriRange.{CheriRange}
use Rattle.cheri_caps.specs.declared.structs.CheriTrap.{CheriTrap}
use Rattle.cheri_caps.specs.declared.structs.CheriJumped.{CheriJumped}

-- the width of 2^n bytes, by the lowest two bits of n
abbrev pub width_of : ℕ → Width
width_of n =
    if n % 4 == 0 then Byte
    else if n % 4 == 1 then Half
    else if n % 4 == 2 then Word
    else Double

-- whether the bytes from an address on, this many, lie wholly in a range
abbrev pub is_in_range : CheriRange → ℕ → ℕ → Bool
is_in_range range addr bytes =
    nat_le range.base addr && nat_le (addr + bytes) (range.base + range.len)

-- The machine's checks of an access, where memory is this range: the last asks whether it has the
-- bytes.
unfoldable pub access_checks : CapValue → ℕ → ℕ → Access → Option CapValue → CheriRange
    → List CheckLine
access_checks auth reg addr kind stored memory =
    take 8 (access_table auth reg addr kind stored [])
    ++ (check_line (not (is_in_range memory addr (size_of kind))) cause.PLACE reg ∷ [])

-- the machine's checks of a fetch, where code is this range
unfoldable pub fetch_checks : CapValue → CheriRange → List CheckLine
fetch_checks pcc code =
    take 5 (fetch_table pcc 0)
    ++ (check_line (not (is_in_range code (address_of pcc) INSTRUCTION_BYTES)) cause.FETCH cause.PCC
    ∷ [])

-- the machine's RAM of this many granules, and its program of this many instructions, as ranges
abbrev pub ram_range : ℕ → CheriRange
ram_range granules = record { base = RAM_BASE; len = GRANULE_BYTES * granules }

abbrev pub code_range : ℕ → CheriRange
code_range count = record { base = CODE_BASE; len = INSTRUCTION_BYTES * count }

-- the target of a jump by an offset, which has bit 0 cleared
abbrev pub target_at : CapValue → ℕ → ℕ
target_at v offset = even ((address_of v + offset) % 2 ^ 64)

-- CJALR through a register, with this offset
abbrev pub jump_checks : CapValue → ℕ → ℕ → List CheckLine
jump_checks through reg offset = jump_table through reg (offset == 0) (target_at through offset)

-- CInvoke of a pair in these registers
abbrev pub invoke_checks : CapValue → ℕ → CapValue → ℕ → List CheckLine
invoke_checks code c1 pair c2 = invoke_table code c1 pair c2 (target_at code 0)

-- what C gets of a verdict: 0 and 0 where no check fails
abbrev pub trap_of : Result (Unit {0}) Trap → CheriTrap
trap_of (Ok passed) = record { cause = 0; reg = 0 }
trap_of (Err trap) = record { cause = trap.cause; reg = trap.reg }

-- a jump to a target through a capability, which leaves another value
abbrev pub jumped : CapValue → ℕ → CapValue → CheriJumped
jumped through target left =
    record {
      pcc = struct_of (set_address (unsealed through) target);
      left = struct_of left;
      trap = record { cause = 0; reg = 0 };
    }

-- null twice, where a check fails
abbrev pub not_jumped : Trap → CheriJumped
not_jumped trap =
    record {
      pcc = struct_of (raw 0);
      left = struct_of (raw 0);
      trap = record { cause = trap.cause; reg = trap.reg };
    }

-- what jumps leave to come back by: the next instruction's address, sealed as a sentry
abbrev pub link_of : CapValue → CapValue
link_of pcc = seal_entry (inc_offset pcc INSTRUCTION_BYTES)

-- CJALR at this PCC
abbrev pub jump_answer : Result (Unit {0}) Trap → CapValue → CapValue → ℕ → CheriJumped
jump_answer (Ok passed) pcc through offset = jumped through (target_at through offset) (link_of pcc)
jump_answer (Err trap) pcc through offset = not_jumped trap

-- CInvoke, which leaves the unsealed data
abbrev pub invoke_answer : Result (Unit {0}) Trap → CapValue → CapValue → CheriJumped
invoke_answer (Ok passed) code pair = jumped code (target_at code 0) (unsealed pair)
invoke_answer (Err trap) code pair = not_jumped trap
