-- Making a capability from its parts: just these bounds, or a refusal.
use Rattle.std.specs.Prelude.{ℕ, ◌+◌, ◌^◌, nat_lt, not, Result, Ok, Err, if◌then◌else◌}
use Rattle.cap_model.specs.bounds.Window.{is_in_window}
use Rattle.cap_model.specs.words.PermissionNames.{known_permissions}
use Rattle.cap_model.specs.values.Capability.{Capability, unsealed_type}
use Rattle.cap_model.specs.values.CapValue.{CapValue, valid}
use Rattle.cap_model.specs.results.Addresses.{is_exact}
use Rattle.cap_ops.specs.declared.making.MakeFault.{MakeFault}
use Rattle.cap_ops.specs.declared.making.MakeFault.TheVariants.{PastEnd, Inexact, Unrepresentable}

-- the refusals' numbers
abbrev pub make_fault_number : MakeFault → ℕ
make_fault_number PastEnd = 1
make_fault_number Inexact = 2
make_fault_number Unrepresentable = 3

-- a capability of a base, a length, an address, permissions and an object type; its flag is 0
abbrev pub capability_with : ℕ → ℕ → ℕ → ℕ → ℕ → Capability
capability_with base len addr perms otype =
    record { base = base; top = base + len; addr = addr; perms = perms; flag = 0; otype = otype }

-- The answer to these parts: the first refusal that holds, else the valid capability with just
-- these bounds. Bits that no permission has are dropped.
unfoldable pub made : ℕ → ℕ → ℕ → ℕ → ℕ → Result CapValue MakeFault
made base len addr perms otype =
    if nat_lt (2 ^ 64) (base + len) then Err PastEnd
    else if not (is_exact base len) then Err Inexact
    else if not (is_in_window base len addr) then Err Unrepresentable
    else Ok (valid (capability_with base len addr (known_permissions perms) otype))

-- the capability that reaches the whole address space
unfoldable pub root_with : ℕ → CapValue
root_with perms = valid (capability_with 0 (2 ^ 64) 0 (known_permissions perms) unsealed_type)
