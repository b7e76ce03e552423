-- The results of sealing and unsealing (CHERI ISA v9, "sealed capabilities"). Which object types
-- can be sealed with, and that a sentry is made only of a capability with Execute, are this
-- project's own.
use Rattle.std.specs.Prelude.{ℕ, ◌*◌, ◌/◌, ◌%◌, ◌^◌, ◌==◌, nat_le, Bool, ◌&&◌, if◌then◌else◌}
use Rattle.cap_model.specs.declared.permission.TheConstants.{GLOBAL, EXECUTE, SEAL, UNSEAL}
use Rattle.cap_model.specs.values.Capability.{unsealed_type, sentry_type, last_sealable_type}
use Rattle.cap_model.specs.values.CapValue.{CapValue, bits_of, tag_of, parts_of, tagged_where}
use Rattle.cap_model.specs.results.EditedWords.{with_perms, with_otype, word_with_upper}
use Rattle.cap_model.specs.results.Addresses.{address_of, is_open, has_permission, in_bounds}

-- the numbers of the permissions that sealing asks for
abbrev pub global_permission : ℕ
global_permission = GLOBAL

abbrev pub execute_permission : ℕ
execute_permission = EXECUTE

abbrev pub seal_permission : ℕ
seal_permission = SEAL

abbrev pub unseal_permission : ℕ
unseal_permission = UNSEAL

-- an object type that CSeal can give
abbrev pub is_sealable : ℕ → Bool
is_sealable otype = nat_le otype last_sealable_type

-- whether a capability, by a permission, has authority over the object type that is its address
abbrev pub has_type_authority : CapValue → ℕ → Bool
has_type_authority authority permission =
    is_open authority && has_permission authority permission
    && in_bounds authority (address_of authority) 1

-- the word with another object type
unfoldable pub word_with_otype : ℕ → ℕ → ℕ
word_with_otype word otype = word_with_upper word (with_otype (word / 2 ^ 64) otype)

-- CSeal: the object type becomes the authority's address, of which the word has the low 18 bits
unfoldable pub seal : CapValue → CapValue → CapValue
seal v authority =
    let otype = address_of authority in
    tagged_where (is_open v && has_type_authority authority seal_permission && is_sealable otype)
    (record (parts_of v) { otype = otype % 2 ^ 18 }) (word_with_otype (bits_of v) (otype % 2 ^ 18))

-- the permissions after unsealing: Global only where the authority has it too
abbrev pub unsealed_perms : CapValue → CapValue → ℕ
unsealed_perms v authority =
    if has_permission authority global_permission then (parts_of v).perms
    else (parts_of v).perms / 2 * 2

-- CUnseal: unsealed, where the authority's address is the object type
unfoldable pub unseal : CapValue → CapValue → CapValue
unseal v authority =
    let perms = unsealed_perms v authority in
    tagged_where
    (tag_of v && is_sealable (parts_of v).otype && has_type_authority authority unseal_permission
    && (address_of authority == (parts_of v).otype))
    (record (parts_of v) { perms = perms; otype = unsealed_type })
    (word_with_upper (bits_of v) (with_perms (with_otype (bits_of v / 2 ^ 64) unsealed_type) perms))

-- CSealEntry: sealed as a sentry
unfoldable pub seal_entry : CapValue → CapValue
seal_entry v =
    tagged_where (is_open v && has_permission v execute_permission)
    (record (parts_of v) { otype = sentry_type }) (word_with_otype (bits_of v) sentry_type)

-- The value unsealed, with its tag as it is: what a jump makes of a sentry, and of a sealed pair
-- (CJALR, CInvoke).
unfoldable pub unsealed : CapValue → CapValue
unsealed v =
    tagged_where (tag_of v)
    (record (parts_of v) { otype = unsealed_type }) (word_with_otype (bits_of v) unsealed_type)
