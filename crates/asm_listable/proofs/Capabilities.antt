-- What is made of numbers of 64 bits is what listings can write.
use Rattle.std.proofs.Common.{◌≡◌, ℕ, ◌+◌, ◌%◌, ◌^◌, ◌<◌, Ok, refl, ap, arith}
use Rattle.cap_model.specs.values.Capability.{unsealed_type, sentry_type}
use Rattle.cap_model.specs.values.CapValue.{CapValue, valid, raw}
use Rattle.cap_ops.specs.Making.{made}
use Rattle.cheri_model.specs.declared.code.TheConstants.{CODE_BASE}
use Rattle.cheri_model.specs.declared.memory.TheConstants.{RAM_BASE}
use Rattle.grammar.specs.declared.capability.CapParts.{CapParts}
use Rattle.grammar.specs.declared.operands.TypeOperand.{TypeOperand}
use Rattle.grammar.specs.declared.operands.TypeOperand.TheVariants.{Unsealed, Sentry}
use Rattle.grammar.specs.Operands.{type_in_range}
use Rattle.grammar.specs.Capability.{unless_refused, capability_of}
use Rattle.canonical.specs.Listable.{IsWritable, IsWritablePcc}
use Rattle.canonical.proofs.round_trip.Drafts.{IsMadeOf, ArePartsOf, capability_ok, writable}
use Rattle.asm_capabilities.specs.declared.code.Reach.{Reach}
use Rattle.asm_capabilities.specs.declared.data.DataKind.{DataKind}
use Rattle.asm_capabilities.specs.Capabilities.{reach_length, reach_permissions, pcc_at, sentry_at, kind_permissions, data_at, table_length, table_of, stack_at}
use Rattle.asm_capabilities.specs.declared.permissions.TheConstants as permissions

parts_of : ℕ → ℕ → ℕ → ℕ → ℕ → CapParts
parts_of base len addr perms otype =
    record { base = base; len = len; addr = addr; perms = record { 0 = perms }; otype = otype }

made_as : (operand : TypeOperand) (base len addr perms otype : ℕ) (v : CapValue) → base < 2 ^ 64 → addr < 2 ^ 64
    → type_in_range operand ≡ Ok otype → made base len addr perms otype ≡ Ok v → IsMadeOf v otype
unfolding capability_of parts_of
made_as operand base len addr perms otype v base_low addr_low typed h =
    let parts : ArePartsOf operand (parts_of base len addr perms otype) =
    record { base_low = omega arith; addr_low = omega arith; typed = typed } in
    capability_ok operand (parts_of base len addr perms otype) v parts (ap unless_refused h)

unsealed : type_in_range Unsealed ≡ Ok unsealed_type
unfolding type_in_range
unsealed = refl

sentry : type_in_range Sentry ≡ Ok sentry_type
unfolding type_in_range
sentry = refl

as_pcc : (v : CapValue) → IsMadeOf v unsealed_type → IsWritablePcc v
as_pcc (valid c) h = h
as_pcc (raw word) h = absurd h

pub pcc_writable : (reach : Reach) (addr : ℕ) (v : CapValue) → addr < 2 ^ 64 → pcc_at reach addr ≡ Ok v → IsWritablePcc v
unfolding pcc_at
pcc_writable reach addr v low h =
    as_pcc v (made_as Unsealed CODE_BASE (reach_length reach) addr (reach_permissions reach) unsealed_type v (omega arith) low unsealed h)

pub sentry_writable : (reach : Reach) (addr : ℕ) (v : CapValue) → addr < 2 ^ 64 → sentry_at reach addr ≡ Ok v → IsWritable v
unfolding sentry_at
sentry_writable reach addr v low h =
    writable v sentry_type (made_as Sentry CODE_BASE (reach_length reach) addr (reach_permissions reach) sentry_type v (omega arith) low sentry h)

pub data_writable : (kind : DataKind) (base length addr : ℕ) (v : CapValue) → base < 2 ^ 64 → addr < 2 ^ 64
    → data_at kind base length addr ≡ Ok v → IsWritable v
unfolding data_at
data_writable kind base length addr v base_low addr_low h =
    writable v unsealed_type (made_as Unsealed base length addr (kind_permissions kind) unsealed_type v base_low addr_low unsealed h)

pub table_writable : (entries : ℕ) (v : CapValue) → table_of entries ≡ Ok v → IsWritable v
unfolding table_of
table_writable entries v h =
    writable v unsealed_type (made_as Unsealed RAM_BASE (table_length entries) RAM_BASE permissions.READ_ONLY unsealed_type v (omega arith) (omega arith) unsealed h)

pub stack_writable : (base size : ℕ) (v : CapValue) → base < 2 ^ 64 → stack_at base size ≡ Ok v → IsWritable v
unfolding stack_at
stack_writable base size v low h =
    let end_low : (base + size) % 2 ^ 64 < 2 ^ 64 = omega arith in
    writable v unsealed_type (made_as Unsealed base size ((base + size) % 2 ^ 64) permissions.STACK unsealed_type v low end_low unsealed h)
