-- What an assembled program is given unasked is plain.
use Rattle.std.proofs.Common.{◌≡◌, ◌⊎◌, inl, inr, ℕ, ◌+◌, ◌%◌, ◌^◌, ◌==◌, nat_lt, not, Bool, true, false, cond, List, Option, Some, None, Result, Ok, Err, refl, sym, ap, ◌∙◌, subst}
use Rattle.std.specs.List.{Contains}
use Rattle.cap_model.specs.bounds.Window.{is_in_window}
use Rattle.cap_model.specs.words.PermissionNames.{known_permissions}
use Rattle.cap_model.specs.results.Addresses.{is_exact}
use Rattle.cap_model.specs.values.Capability.{unsealed_type, sentry_type}
use Rattle.cap_model.specs.values.CapValue.{CapValue, valid, raw}
use Rattle.cap_ops.specs.declared.making.MakeFault.{MakeFault}
use Rattle.cap_ops.specs.declared.making.MakeFault.TheVariants as refusal
use Rattle.cap_ops.specs.Making.{made, capability_with}
use Rattle.cheri_model.specs.declared.code.TheConstants.{CODE_BASE}
use Rattle.cheri_model.specs.declared.memory.TheConstants.{RAM_BASE}
use Rattle.canonical.proofs.round_trip.Ranges.{test_false}
use Rattle.asm_capabilities.specs.declared.code.Reach.{Reach}
use Rattle.asm_capabilities.specs.declared.code.Reach.TheVariants.{Code, CodeAndMemory}
use Rattle.asm_capabilities.specs.declared.data.DataKind.{DataKind}
use Rattle.asm_capabilities.specs.declared.data.DataKind.TheVariants.{ReadOnly, Writable}
use Rattle.asm_capabilities.specs.declared.permissions.TheConstants as permissions
use Rattle.asm_capabilities.specs.Capabilities.{reach_length, reach_permissions, pcc_at, sentry_at, kind_permissions, data_at, table_length, table_of, stack_at}
use Rattle.asm_listable.specs.Plain.{IsPlain, IsPlainCode, IsPlainData}

-- what was made has these permissions and this type
pub made_is : (base len addr perms otype : ℕ) (v : CapValue) → made base len addr perms otype ≡ Ok v
    → valid (capability_with base len addr (known_permissions perms) otype) ≡ v
unfolding made
made_is base len addr perms otype v e =
    let c : CapValue = valid (capability_with base len addr (known_permissions perms) otype) in
    let one = test_false (nat_lt (2 ^ 64) (base + len)) (cond (not (is_exact base len)) (Err refusal.Inexact) (cond (not (is_in_window base len addr)) (Err refusal.Unrepresentable) (Ok c))) refusal.PastEnd v e in
    let two = test_false (not (is_exact base len)) (cond (not (is_in_window base len addr)) (Err refusal.Unrepresentable) (Ok c)) refusal.Inexact v one.1 in
    let three = test_false (not (is_in_window base len addr)) (Ok c) refusal.Unrepresentable v two.1 in
    let h = three.1 in cc

code_by : (reach : Reach) (base len addr otype : ℕ) → (otype ≡ unsealed_type) ⊎ (otype ≡ sentry_type)
    → IsPlainCode (valid (capability_with base len addr (known_permissions (reach_permissions reach)) otype))
unfolding reach_permissions
code_by (Code count) base len addr otype typed = ((refl, refl, typed), refl)
code_by CodeAndMemory base len addr otype typed = ((refl, refl, typed), refl)

pub pcc_plain : (reach : Reach) (addr : ℕ) (v : CapValue) → pcc_at reach addr ≡ Ok v → IsPlainCode v
unfolding pcc_at
pcc_plain reach addr v e =
    subst IsPlainCode (made_is CODE_BASE (reach_length reach) addr (reach_permissions reach) unsealed_type v e)
    (code_by reach CODE_BASE (reach_length reach) addr unsealed_type (inl refl))

pub sentry_plain : (reach : Reach) (addr : ℕ) (v : CapValue) → sentry_at reach addr ≡ Ok v → IsPlainCode v
unfolding sentry_at
sentry_plain reach addr v e =
    subst IsPlainCode (made_is CODE_BASE (reach_length reach) addr (reach_permissions reach) sentry_type v e)
    (code_by reach CODE_BASE (reach_length reach) addr sentry_type (inr refl))

data_by : (kind : DataKind) (base len addr : ℕ)
    → IsPlainData (valid (capability_with base len addr (known_permissions (kind_permissions kind)) unsealed_type))
unfolding kind_permissions
data_by ReadOnly base len addr = ((refl, refl, inl refl), refl)
data_by Writable base len addr = ((refl, refl, inl refl), refl)

pub data_plain : (kind : DataKind) (base length addr : ℕ) (v : CapValue) → data_at kind base length addr ≡ Ok v → IsPlainData v
unfolding data_at
data_plain kind base length addr v e =
    subst IsPlainData (made_is base length addr (kind_permissions kind) unsealed_type v e) (data_by kind base length addr)

table_by : (base len addr : ℕ) → IsPlainData (valid (capability_with base len addr (known_permissions permissions.READ_ONLY) unsealed_type))
table_by base len addr = ((refl, refl, inl refl), refl)

pub table_plain : (entries : ℕ) (v : CapValue) → table_of entries ≡ Ok v → IsPlainData v
unfolding table_of
table_plain entries v e =
    subst IsPlainData (made_is RAM_BASE (table_length entries) RAM_BASE permissions.READ_ONLY unsealed_type v e) (table_by RAM_BASE (table_length entries) RAM_BASE)

stack_by : (base len addr : ℕ) → IsPlainData (valid (capability_with base len addr (known_permissions permissions.STACK) unsealed_type))
stack_by base len addr = ((refl, refl, inl refl), refl)

pub stack_plain : (base size : ℕ) (v : CapValue) → stack_at base size ≡ Ok v → IsPlainData v
unfolding stack_at
stack_plain base size v e =
    subst IsPlainData (made_is base size ((base + size) % 2 ^ 64) permissions.STACK unsealed_type v e) (stack_by base size ((base + size) % 2 ^ 64))
