-- Sets of permissions, which have no bit but those of permissions.
use Rattle.std.specs.Prelude.{◌≡◌, ℕ, ◌+◌, ◌-◌, ◌*◌, ◌/◌, ◌%◌, ◌^◌, ◌<◌, bit_and}
use Rattle.std.proofs.Common.{arith, ap, ◌∙◌, refl, subst}
use Rattle.std.specs.Int.Bits.{and_zero_l, and_block}
use Rattle.std.proofs.lemmas.Nat.{and_comm, and_le_l, and_mask, and_shr, and_mod}
use Rattle.cap_model.specs.values.Capability.{IsPermissionSet}
use Rattle.cap_model.specs.words.PermissionNames.{all_permissions, known_permissions}

-- permissions that are also in a mask are known where the permissions are
pub perms_in_mask : (perms mask : ℕ) → IsPermissionSet perms → IsPermissionSet (bit_and perms mask)
perms_in_mask perms mask h =
    let digits : bit_and perms mask / 2 ^ 12 % 2 ^ 3 ≡ bit_and (perms / 2 ^ 12 % 2 ^ 3) (mask / 2 ^ 12 % 2 ^ 3) =
    ap (λ (n : ℕ). n % 2 ^ 3) (and_shr perms mask 12) ∙ and_mod (perms / 2 ^ 12) (mask / 2 ^ 12) 3 in
    let none : perms / 2 ^ 12 % 2 ^ 3 ≡ 0 = h.known in
    record {
      below = omega (arith, and_le_l perms mask, h.below);
      known = digits ∙ ap (λ (n : ℕ). bit_and n (mask / 2 ^ 12 % 2 ^ 3)) none ∙ and_zero_l (mask / 2 ^ 12 % 2 ^ 3);
    }

-- all permissions are a set
all_are_known : IsPermissionSet all_permissions
all_are_known = record { below = omega arith; known = refl }

-- of any bits those of permissions are a set
pub dropped_bits_leave_set : (bits : ℕ) → IsPermissionSet (known_permissions bits)
dropped_bits_leave_set bits = subst IsPermissionSet (and_comm all_permissions bits) (perms_in_mask all_permissions bits all_are_known)

-- a set has no bit to be dropped
pub set_drops_nothing : (perms : ℕ) → IsPermissionSet perms → known_permissions perms ≡ perms
set_drops_nothing perms h =
    let high : perms / 2 ^ 15 < 2 ^ 4 = let b = h.below in omega arith in
    let parts : perms / 2 ^ 15 * 2 ^ 15 + perms % 2 ^ 12 ≡ perms = let k = h.known in omega arith in
    let blocks : bit_and (perms / 2 ^ 15 * 2 ^ 15 + perms % 2 ^ 12) (15 * 2 ^ 15 + (2 ^ 12 - 1))
    ≡ bit_and (perms / 2 ^ 15) 15 * 2 ^ 15 + bit_and (perms % 2 ^ 12) (2 ^ 12 - 1) =
    and_block 15 (perms / 2 ^ 15) 15 (perms % 2 ^ 12) (2 ^ 12 - 1) (omega arith) (omega arith) in
    let upper : bit_and (perms / 2 ^ 15) (2 ^ 4 - 1) ≡ perms / 2 ^ 15 % 2 ^ 4 = and_mask (perms / 2 ^ 15) 4 in
    let lower : bit_and (perms % 2 ^ 12) (2 ^ 12 - 1) ≡ perms % 2 ^ 12 % 2 ^ 12 = and_mask (perms % 2 ^ 12) 12 in
    rw parts at blocks ∙ omega arith
