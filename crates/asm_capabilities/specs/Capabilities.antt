-- The capabilities that an assembled program begins with: each is made exactly, or there is none.
use Rattle.std.specs.Prelude.{ℕ, ◌+◌, ◌-◌, ◌*◌, ◌%◌, ◌^◌, ◌==◌, max, Bool, ◌&&◌, Result}
use Rattle.cap_model.specs.bounds.Alignment.{representable_length, alignment_mask}
use Rattle.cap_model.specs.values.Capability.{unsealed_type, sentry_type}
use Rattle.cap_model.specs.values.CapValue.{CapValue}
use Rattle.cap_ops.specs.declared.making.MakeFault.{MakeFault}
use Rattle.cap_ops.specs.Making.{made}
use Rattle.cheri_model.specs.declared.code.TheConstants.{CODE_BASE, INSTRUCTION_BYTES}
use Rattle.cheri_model.specs.declared.memory.TheConstants.{RAM_BASE, GRANULE_BYTES}
use Rattle.asm_capabilities.specs.declared.code.Reach.{Reach}
use Rattle.asm_capabilities.specs.declared.code.Reach.TheVariants.{Code, CodeAndMemory}
use Rattle.asm_capabilities.specs.declared.code.TheConstants.{WIDE_TOP}
use Rattle.asm_capabilities.specs.declared.data.DataKind.{DataKind}
use Rattle.asm_capabilities.specs.declared.data.DataKind.TheVariants.{ReadOnly, Writable}
use Rattle.asm_capabilities.specs.declared.permissions.TheConstants as permissions

-- ---- code

-- how many bytes PCC has, from the beginning of code on
unfoldable pub reach_length : Reach → ℕ
reach_length (Code count) = representable_length (INSTRUCTION_BYTES * count)
reach_length CodeAndMemory = WIDE_TOP - CODE_BASE

unfoldable pub reach_permissions : Reach → ℕ
reach_permissions (Code count) = permissions.CODE
reach_permissions CodeAndMemory = permissions.CODE_AND_MEMORY

-- PCC at an address, and a sentry to one
unfoldable pub pcc_at : Reach → ℕ → Result CapValue MakeFault
pcc_at reach addr =
    made CODE_BASE (reach_length reach) addr (reach_permissions reach) unsealed_type

unfoldable pub sentry_at : Reach → ℕ → Result CapValue MakeFault
sentry_at reach addr =
    made CODE_BASE (reach_length reach) addr (reach_permissions reach) sentry_type

-- ---- memory

unfoldable pub kind_permissions : DataKind → ℕ
kind_permissions ReadOnly = permissions.READ_ONLY
kind_permissions Writable = permissions.WRITABLE

-- a symbol's bytes, at an address
unfoldable pub data_at : DataKind → ℕ → ℕ → ℕ → Result CapValue MakeFault
data_at kind base length addr = made base length addr (kind_permissions kind) unsealed_type

-- the capability table, of so many entries
unfoldable pub table_length : ℕ → ℕ
table_length entries = representable_length (GRANULE_BYTES * entries)

unfoldable pub table_of : ℕ → Result CapValue MakeFault
table_of entries = made RAM_BASE (table_length entries) RAM_BASE permissions.READ_ONLY unsealed_type

-- ---- stacks

-- the sizes that a stack may have
unfoldable pub is_stack_size : ℕ → Bool
is_stack_size size = (size % GRANULE_BYTES == 0) && (representable_length size == size)

-- what its base is a multiple of: a granule, and what bounds of this length ask for
unfoldable pub stack_alignment : ℕ → ℕ
stack_alignment size = max ((2 ^ 64 - alignment_mask size) % 2 ^ 64) GRANULE_BYTES

-- a stack, at its end
unfoldable pub stack_at : ℕ → ℕ → Result CapValue MakeFault
stack_at base size = made base size ((base + size) % 2 ^ 64) permissions.STACK unsealed_type
