-- The state of one hart: its registers, PCC and whether it runs.
use Rattle.std.specs.Prelude.{ℕ, ◌+◌, ◌%◌, ◌^◌, ◌==◌, if◌then◌else◌, List, slice_index_or}
use Rattle.std.specs.Prelude.{slice_set}
use Rattle.cheri_model.specs.declared.code.TheConstants.{INSTRUCTION_BYTES}
use Rattle.cheri_model.specs.declared.trace.Status.{Status}
use Rattle.cap_model.specs.values.CapValue.{CapValue, raw}
use Rattle.cap_model.specs.results.Addresses.{address_of, with_address}
use Rattle.cap_model.specs.results.Seals.{seal_entry}

-- c0 to c31, of which c0 is always null; PCC; and whether the hart runs
pub record HartState : Type 0 where
  pub regs : List CapValue
  pub pcc : CapValue
  pub status : Status

-- null: an untagged word 0
abbrev pub null : CapValue
null = raw 0

unfoldable pub register : HartState → ℕ → CapValue
register hart number = slice_index_or hart.regs number null

-- a register read as an integer
abbrev pub integer : HartState → ℕ → ℕ
integer hart number = address_of (register hart number)

-- an integer as a register holds it
abbrev pub word_of_integer : ℕ → CapValue
word_of_integer n = raw (n % 2 ^ 64)

-- a write to c0 is dropped
unfoldable pub put : ℕ → CapValue → HartState → HartState
put cd v hart = if cd == 0 then hart else record hart { regs = slice_set hart.regs cd v }

-- PCC at the next instruction
unfoldable pub next_pcc : CapValue → CapValue
next_pcc pcc = with_address pcc ((address_of pcc + INSTRUCTION_BYTES) % 2 ^ 64)

-- the hart at the next instruction
unfoldable pub next : HartState → HartState
next hart = record hart { pcc = next_pcc hart.pcc }

-- what a jump leaves to come back by: the next instruction's address, sealed as a sentry
unfoldable pub link : CapValue → CapValue
link pcc = seal_entry (next_pcc pcc)
