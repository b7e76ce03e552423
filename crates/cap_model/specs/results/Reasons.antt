-- Why a result has no tag: for each capability instruction a table of reasons, in order. The tag is
-- kept exactly where no line of the table holds; the first line that holds is the reason that is
-- told (the conditions are those of CHERI ISA v9, the instructions' own pages; their order is this
-- project's own).
use Rattle.std.specs.Prelude.{ℕ, ◌+◌, ◌/◌, ◌%◌, ◌^◌, ◌==◌, nat_lt, Bool, true, not, bit_and, List}
use Rattle.std.specs.Prelude.{[], ◌∷◌, Option, find, is_none}
use Rattle.std.specs.Option.{option_map}
use Rattle.cap_model.specs.declared.reason.Reason.{Reason}
use Rattle.cap_model.specs.declared.reason.Reason.TheVariants.{Cleared, UpperReplaced}
use Rattle.cap_model.specs.declared.reason.Reason.TheVariants.{SourceUntagged, SourceSealed}
use Rattle.cap_model.specs.declared.reason.Reason.TheVariants.{SourceUnsealed, SourceSentry}
use Rattle.cap_model.specs.declared.reason.Reason.TheVariants.{AuthorityUntagged, AuthoritySealed}
use Rattle.cap_model.specs.declared.reason.Reason.TheVariants.{NoExecute, NoSeal, NoUnseal}
use Rattle.cap_model.specs.declared.reason.Reason.TheVariants.{NotRepresentable, BaseBelow}
use Rattle.cap_model.specs.declared.reason.Reason.TheVariants.{EndAbove, TopAbove, Rounded}
use Rattle.cap_model.specs.declared.reason.Reason.TheVariants.{TypeOutside, TypeNotSealable}
use Rattle.cap_model.specs.declared.reason.Reason.TheVariants.{TypeDiffers, ReservedBits}
use Rattle.cap_model.specs.declared.reason.Reason.TheVariants.{BaseAboveTop, MorePermissions}
use Rattle.cap_model.specs.declared.reason.Reason.TheVariants.{NotAligned}
use Rattle.cap_model.specs.words.Fields.{word_reserved}
use Rattle.cap_model.specs.values.Capability.{sentry_type}
use Rattle.cap_model.specs.values.CapValue.{CapValue, bits_of, tag_of}
use Rattle.cap_model.specs.results.Addresses.{address_of, has_permission, in_bounds, keeps_bounds}
use Rattle.cap_model.specs.results.Addresses.{is_exact}
use Rattle.cap_model.specs.results.Seals.{execute_permission, seal_permission, unseal_permission}
use Rattle.cap_model.specs.results.Seals.{is_sealable}
use Rattle.cap_model.specs.results.Readings.{permissions_of, object_type_of, base_of, top_of}
use Rattle.cap_model.specs.results.Readings.{is_sealed}
use Rattle.cap_model.specs.results.Rebuilt.{are_aligned}
use Rattle.cap_model.specs.results.CapInstructions.{CapInstruction, CMove, CClearTag, CSetAddr}
use Rattle.cap_model.specs.results.CapInstructions.{CIncOffset, CSetBounds, CSetBoundsExact}
use Rattle.cap_model.specs.results.CapInstructions.{CAndPerm, CSetFlags, CSetHigh, CSeal, CUnseal}
use Rattle.cap_model.specs.results.CapInstructions.{CSealEntry, CBuildCap, UnsealedByJump}

-- the reason of the first line that holds, if one does
unfoldable pub first_reason : List (Bool × Reason) → Option Reason
first_reason table = option_map (λ line. line.1) (find (λ line. line.0) table)

-- no line holds
unfoldable pub no_reason : List (Bool × Reason) → Bool
no_reason table = is_none (first_reason table)

-- ---- lines of several tables

abbrev pub untagged : CapValue → Bool × Reason
untagged v = (not (tag_of v), SourceUntagged)

abbrev pub sealed : CapValue → Bool × Reason
sealed v = (is_sealed v, SourceSealed)

-- an address that changes the bounds
abbrev pub not_representable : CapValue → ℕ → Bool × Reason
not_representable v a = (not (keeps_bounds v a), NotRepresentable)

abbrev pub authority_untagged : CapValue → Bool × Reason
authority_untagged authority = (not (tag_of authority), AuthorityUntagged)

abbrev pub authority_sealed : CapValue → Bool × Reason
authority_sealed authority = (is_sealed authority, AuthoritySealed)

-- the object type is the authority's address
abbrev pub type_outside : CapValue → Bool × Reason
type_outside authority = (not (in_bounds authority (address_of authority) 1), TypeOutside)

-- ---- tables

abbrev pub open_reasons : CapValue → List (Bool × Reason)
open_reasons v = untagged v ∷ sealed v ∷ []

abbrev pub set_address_reasons : CapValue → ℕ → List (Bool × Reason)
set_address_reasons v a = untagged v ∷ sealed v ∷ not_representable v a ∷ []

-- the requested range begins at the address
abbrev pub base_below : CapValue → Bool × Reason
base_below v = (nat_lt (address_of v) (base_of v), BaseBelow)

abbrev pub end_above : CapValue → ℕ → Bool × Reason
end_above v len = (nat_lt (top_of v) (address_of v + len), EndAbove)

abbrev pub set_bounds_reasons : CapValue → ℕ → List (Bool × Reason)
set_bounds_reasons v len = untagged v ∷ sealed v ∷ base_below v ∷ end_above v len ∷ []

abbrev pub set_bounds_exact_reasons : CapValue → ℕ → List (Bool × Reason)
set_bounds_exact_reasons v len =
    untagged v ∷ sealed v ∷ base_below v ∷ end_above v len
    ∷ (not (is_exact (address_of v) len), Rounded) ∷ []

abbrev pub seal_reasons : CapValue → CapValue → List (Bool × Reason)
seal_reasons v authority =
    untagged v ∷ sealed v
    ∷ authority_untagged authority ∷ authority_sealed authority
    ∷ (not (has_permission authority seal_permission), NoSeal)
    ∷ type_outside authority
    ∷ (not (is_sealable (address_of authority)), TypeNotSealable) ∷ []

abbrev pub unseal_reasons : CapValue → CapValue → List (Bool × Reason)
unseal_reasons v authority =
    untagged v
    ∷ (not (is_sealed v), SourceUnsealed)
    ∷ (object_type_of v == sentry_type, SourceSentry)
    ∷ authority_untagged authority ∷ authority_sealed authority
    ∷ (not (has_permission authority unseal_permission), NoUnseal)
    ∷ type_outside authority
    ∷ (not (address_of authority == object_type_of v), TypeDiffers) ∷ []

abbrev pub seal_entry_reasons : CapValue → List (Bool × Reason)
seal_entry_reasons v =
    untagged v ∷ sealed v ∷ (not (has_permission v execute_permission), NoExecute) ∷ []

-- c1 is the source, which has authority, and c2 the word that is rebuilt under it
abbrev pub build_reasons : CapValue → CapValue → List (Bool × Reason)
build_reasons v w =
    untagged v ∷ sealed v
    ∷ (not (word_reserved (bits_of w / 2 ^ 64) == 0), ReservedBits)
    ∷ (nat_lt (base_of w) (base_of v), BaseBelow)
    ∷ (nat_lt (top_of v) (top_of w), TopAbove)
    ∷ (nat_lt (top_of w) (base_of w), BaseAboveTop)
    ∷ (not (bit_and (permissions_of w) (permissions_of v) == permissions_of w), MorePermissions)
    ∷ (not (are_aligned (base_of w) (top_of w)), NotAligned)
    ∷ not_representable w (address_of w) ∷ []

-- the table of each instruction
unfoldable pub reasons : CapInstruction → CapValue → CapValue → List (Bool × Reason)
reasons CMove v w = untagged v ∷ []
reasons CClearTag v w = (true, Cleared) ∷ []
reasons CSetAddr v w = set_address_reasons v (address_of w)
reasons CIncOffset v w = set_address_reasons v ((address_of v + address_of w) % 2 ^ 64)
reasons CSetBounds v w = set_bounds_reasons v (address_of w)
reasons CSetBoundsExact v w = set_bounds_exact_reasons v (address_of w)
reasons CAndPerm v w = open_reasons v
reasons CSetFlags v w = open_reasons v
reasons CSetHigh v w = (true, UpperReplaced) ∷ []
reasons CSeal v w = seal_reasons v w
reasons CUnseal v w = unseal_reasons v w
reasons CSealEntry v w = seal_entry_reasons v
reasons CBuildCap v w = build_reasons v w
reasons UnsealedByJump v w = untagged v ∷ []
