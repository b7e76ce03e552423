-- Checks before an instruction acts. A table of checks is a list of lines in order; the first that
-- fails is the trap. The causes' numbers and the order of the checks are this project's own (CHERI
-- ISA v9, "capability exceptions", leaves the order to the implementation).
use Rattle.std.specs.Prelude.{ℕ, ◌-◌, ◌/◌, ◌%◌, ◌==◌, nat_le, nat_lt, Bool, true, false, not, ◌&&◌}
use Rattle.std.specs.Prelude.{◌||◌, List, [], ◌∷◌, Option, Some, None, Result, Ok, Err, find}
use Rattle.cheri_model.specs.declared.access.Access.{Access}
use Rattle.cheri_model.specs.declared.access.Access.TheVariants.{Load, Store, LoadCap, StoreCap}
use Rattle.cheri_model.specs.declared.access.Access.TheVariants.{Swap}
use Rattle.cheri_model.specs.declared.code.TheConstants.{CODE_BASE, INSTRUCTION_BYTES}
use Rattle.cheri_model.specs.declared.memory.TheConstants.{GRANULE_BYTES}
use Rattle.cap_model.specs.declared.permission.TheConstants as permission
use Rattle.cheri_model.specs.declared.trace.Trap.{Trap}
use Rattle.cheri_model.specs.declared.trace.TheConstants.Trap as cause
use Rattle.cap_model.specs.values.Capability.{unsealed_type, sentry_type}
use Rattle.cap_model.specs.values.CapValue.{CapValue, tag_of, parts_of}
use Rattle.cheri_model.specs.steps.Memory.{bytes_of, is_in_ram}
use Rattle.cap_model.specs.results.Addresses.{address_of, has_permission, in_bounds}
use Rattle.cap_model.specs.results.Seals.{is_sealable}

pub record CheckLine : Type 0 where
  pub fails : Bool
  pub trap : Trap

abbrev pub check_line : Bool → ℕ → ℕ → CheckLine
check_line fails cause reg = record { fails = fails; trap = record { cause = cause; reg = reg } }

abbrev pub verdict_of : Option CheckLine → Result (Unit {0}) Trap
verdict_of None = Ok tt
verdict_of (Some line) = Err line.trap

-- the trap of the first line that fails, if one does
unfoldable pub first_failing : List CheckLine → Result (Unit {0}) Trap
first_failing table = verdict_of (find (λ line. line.fails) table)

abbrev pub has_type : CapValue → ℕ → Bool
has_type v otype = (parts_of v).otype == otype

-- ---- the fetch

-- code lies apart from memory: instruction i is at 0x1000_0000 + 4 * i
abbrev pub code_base : ℕ
code_base = CODE_BASE

-- whether an address is the place of an instruction, in a program of this many
abbrev pub is_in_code : ℕ → ℕ → Bool
is_in_code count addr =
    nat_le code_base addr && nat_lt ((addr - code_base) / INSTRUCTION_BYTES) count

-- the checks of a fetch, in a program of this many instructions
unfoldable pub fetch_table : CapValue → ℕ → List CheckLine
fetch_table pcc count =
    let pc = address_of pcc in
    check_line (not (tag_of pcc)) cause.TAG cause.PCC
    ∷ check_line (not (has_type pcc unsealed_type)) cause.SEAL cause.PCC
    ∷ check_line (not (has_permission pcc permission.EXECUTE)) cause.EXECUTE cause.PCC
    ∷ check_line (not (in_bounds pcc pc INSTRUCTION_BYTES)) cause.LENGTH cause.PCC
    ∷ check_line (not (pc % INSTRUCTION_BYTES == 0)) cause.ALIGNMENT cause.PCC
    ∷ check_line (not (is_in_code count pc)) cause.FETCH cause.PCC
    ∷ []

-- ---- memory

-- the bytes that an access moves
abbrev pub size_of : Access → ℕ
size_of (Load width) = bytes_of width
size_of (Store width) = bytes_of width
size_of LoadCap = GRANULE_BYTES
size_of StoreCap = GRANULE_BYTES
size_of Swap = GRANULE_BYTES

abbrev pub is_load : Access → Bool
is_load (Load width) = true
is_load (Store width) = false
is_load LoadCap = true
is_load StoreCap = false
is_load Swap = true

abbrev pub is_store : Access → Bool
is_store (Load width) = false
is_store (Store width) = true
is_store LoadCap = false
is_store StoreCap = true
is_store Swap = true

-- whether an access stores a capability; what else it may be handed doesn't count
abbrev pub stores_capability : Access → Bool
stores_capability (Load width) = false
stores_capability (Store width) = false
stores_capability LoadCap = false
stores_capability StoreCap = true
stores_capability Swap = true

-- whether what is stored, as a capability, is tagged; a data store stores none
abbrev pub is_tagged : Option CapValue → Bool
is_tagged None = false
is_tagged (Some v) = tag_of v

abbrev pub is_global : Option CapValue → Bool
is_global None = false
is_global (Some v) = has_permission v permission.GLOBAL

-- the checks of an access through the register with this number, which holds `auth`
unfoldable pub access_table : CapValue → ℕ → ℕ → Access → Option CapValue → List CapValue
    → List CheckLine
access_table auth reg ea kind stored granules =
    check_line (not (tag_of auth)) cause.TAG reg
    ∷ check_line (not (has_type auth unsealed_type)) cause.SEAL reg
    ∷ check_line (is_load kind && not (has_permission auth permission.LOAD)) cause.LOAD reg
    ∷ check_line (is_store kind && not (has_permission auth permission.STORE)) cause.STORE reg
    ∷ check_line
    (stores_capability kind && is_tagged stored && not (has_permission auth permission.STORE_CAP))
    cause.STORE_CAP reg
    ∷ check_line
    (stores_capability kind && is_tagged stored && not (is_global stored)
    && not (has_permission auth permission.STORE_LOCAL))
    cause.STORE_LOCAL reg
    ∷ check_line (not (in_bounds auth ea (size_of kind))) cause.LENGTH reg
    ∷ check_line (not (ea % size_of kind == 0)) cause.ALIGNMENT reg
    ∷ check_line (not (is_in_ram granules ea (size_of kind))) cause.PLACE reg
    ∷ []

-- ---- jumps

-- a taken branch and CJAL: four bytes at the target in PCC's bounds
unfoldable pub target_table : CapValue → ℕ → List CheckLine
target_table pcc target =
    check_line (not (in_bounds pcc target INSTRUCTION_BYTES)) cause.LENGTH cause.PCC ∷ []

-- CJALR through the register with this number; a sentry may be jumped to where it points alone
unfoldable pub jump_table : CapValue → ℕ → Bool → ℕ → List CheckLine
jump_table through reg is_entry target =
    check_line (not (tag_of through)) cause.TAG reg
    ∷ check_line
    (not (has_type through unsealed_type || (has_type through sentry_type && is_entry)))
    cause.SEAL reg
    ∷ check_line (not (has_permission through permission.EXECUTE)) cause.EXECUTE reg
    ∷ check_line (not (in_bounds through target INSTRUCTION_BYTES)) cause.LENGTH reg
    ∷ check_line (not (target % INSTRUCTION_BYTES == 0)) cause.ALIGNMENT reg
    ∷ []

-- CInvoke of the sealed pair of code and data in the registers with these numbers
unfoldable pub invoke_table : CapValue → ℕ → CapValue → ℕ → ℕ → List CheckLine
invoke_table code c1 data_cap c2 target =
    check_line (not (tag_of code)) cause.TAG c1
    ∷ check_line (not (tag_of data_cap)) cause.TAG c2
    ∷ check_line (not (is_sealable (parts_of code).otype)) cause.SEAL c1
    ∷ check_line (not (is_sealable (parts_of data_cap).otype)) cause.SEAL c2
    ∷ check_line (not (has_type code (parts_of data_cap).otype)) cause.TYPE c1
    ∷ check_line (not (has_permission code permission.CINVOKE)) cause.CINVOKE c1
    ∷ check_line (not (has_permission data_cap permission.CINVOKE)) cause.CINVOKE c2
    ∷ check_line (not (has_permission code permission.EXECUTE)) cause.EXECUTE c1
    ∷ check_line (has_permission data_cap permission.EXECUTE) cause.EXECUTE c2
    ∷ check_line (not (in_bounds code target INSTRUCTION_BYTES)) cause.LENGTH c1
    ∷ check_line (not (target % INSTRUCTION_BYTES == 0)) cause.ALIGNMENT c1
    ∷ []
