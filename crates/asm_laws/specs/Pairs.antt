-- The pairs of `auipcc` and a second instruction: where they stand and what they reach.
use Rattle.std.specs.Prelude.{◌≡◌, ℕ, ℤ, ◌+◌, ◌*◌, ◌%◌, ◌^◌, ◌<◌, ◌≤◌, true, List, [], ◌∷◌}
use Rattle.cheri_model.specs.declared.code.TheConstants.{INSTRUCTION_BYTES}
use Rattle.cheri_model.specs.declared.instr.Instr.{Instr}
use Rattle.cheri_model.specs.declared.instr.Instr.TheVariants.{AuiPcc}
use Rattle.cap_model.specs.values.CapValue.{CapValue, IsLawfulValue, parts_of}
use Rattle.cap_model.specs.results.Addresses.{address_of, with_address, in_bounds}
use Rattle.cap_model.specs.results.Addresses.{has_permission}
use Rattle.cap_model.specs.declared.permission.TheConstants.{LOAD, LOAD_CAP}
use Rattle.cap_model.specs.results.Seals.{seal_entry}
use Rattle.cheri_model.specs.declared.memory.TheConstants.{GRANULE_BYTES}
use Rattle.cheri_model.specs.steps.Memory.{is_in_ram}
use Rattle.cheri_model.specs.steps.Hart.{HartState}
use Rattle.asm_expansions.specs.Immediates.{bits_of, high_bits, is_reachable}
use Rattle.asm_laws.specs.Stretches.{StandsAt, HasRegisters}

-- the pair for a distance
abbrev pub pair : ℕ → Instr → ℤ → List Instr
pair cd second distance = AuiPcc cd (high_bits (bits_of distance)) ∷ second ∷ []

-- A pair stands at PC, and the distance from PC to a place is in its reach; the place lies in PCC's
-- bounds or at their end.
pub record Reaches (program : List Instr) (cd : ℕ) (second : Instr) (distance : ℤ) (place : ℕ)
    (hart : HartState) : Type 0 where
  pub registers : HasRegisters hart
  pub stands : StandsAt program (pair cd second distance) hart
  pub lawful : IsLawfulValue hart.pcc
  pub reach : is_reachable distance ≡ true
  pub there : (address_of hart.pcc + bits_of distance) % 2 ^ 64 ≡ place % 2 ^ 64
  pub from : (parts_of hart.pcc).base ≤ place
  pub to : place ≤ (parts_of hart.pcc).top

-- The place is that of an instruction: it is aligned, and its four bytes are in PCC's bounds.
pub record IsEntry (place : ℕ) (hart : HartState) : Type 0 where
  pub aligned : place % INSTRUCTION_BYTES ≡ 0
  pub below : place < 2 ^ 64
  pub within : in_bounds hart.pcc place INSTRUCTION_BYTES ≡ true

-- The place is a granule of RAM from which PCC may load a capability.
pub record IsEntryOfTable (place : ℕ) (hart : HartState) (memory : List CapValue) : Type 0 where
  pub aligned : place % GRANULE_BYTES ≡ 0
  pub below : place < 2 ^ 64
  pub within : in_bounds hart.pcc place GRANULE_BYTES ≡ true
  pub loads : has_permission hart.pcc LOAD ≡ true
  pub keeps : has_permission hart.pcc LOAD_CAP ≡ true
  pub placed : is_in_ram memory place GRANULE_BYTES ≡ true

-- the hart at a place, by PCC
abbrev pub arrived : ℕ → HartState → HartState → HartState
arrived place hart after = record after { pcc = with_address hart.pcc place }

-- the sentry behind so many instructions from PC on
abbrev pub link_behind : ℕ → HartState → CapValue
link_behind count hart =
    seal_entry
    (with_address hart.pcc ((address_of hart.pcc + INSTRUCTION_BYTES * count) % 2 ^ 64))
