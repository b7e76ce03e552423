-- Reasons in words: why a tag was lost, and why a step trapped.
use Rattle.std.specs.Prelude.{ℕ, ◌^◌, nat_lt, if◌then◌else◌, false, List, codes, decimal}
use Rattle.cap_model.specs.words.PermissionNames.{permission_table}
use Rattle.notation.specs.Permissions.{joined_text}
use Rattle.report_lines.specs.Texts.{◌+++◌}
use Rattle.report_lines.specs.ValueText.{hex_text, type_text}
use Rattle.origins.specs.declared.place.Spot.{Spot}
use Rattle.facts.specs.declared.why.Why.{Why}
use Rattle.facts.specs.declared.why.Why.TheVariants as why
use Rattle.facts.specs.declared.why.TrapWhy.{TrapWhy}
use Rattle.facts.specs.declared.why.TrapWhy.TheVariants as trap_why
use Rattle.explanations.specs.Names.{spot_name}

-- the names of permissions, in bit order, joined by `+`
abbrev pub permission_names : ℕ → List ℕ
permission_names perms = joined_text false perms permission_table

-- the set that has the permission with this number alone
abbrev pub permission_set : ℕ → ℕ
permission_set number = if nat_lt number 32 then 2 ^ number else 0

-- an address, and a number that may be 2^64
abbrev pub h64 : ℕ → List ℕ
h64 n = hex_text 16 n

abbrev pub h65 : ℕ → List ℕ
h65 n = hex_text 17 n

abbrev pub untagged : Spot → List ℕ
untagged name = spot_name name +++ codes " is untagged"

abbrev pub sealed : Spot → ℕ → List ℕ
sealed name otype = spot_name name +++ codes " is sealed (" +++ type_text otype +++ codes ")"

abbrev pub lacks : Spot → ℕ → List ℕ
lacks name permission =
    spot_name name +++ codes " has no " +++ permission_names (permission_set permission)

-- an address that a capability with these bounds could not have
abbrev pub outside_region : ℕ → ℕ → ℕ → List ℕ
outside_region address power start =
    codes "address " +++ h64 address +++ codes " is outside the representable region of 2^"
    +++ decimal power +++ codes " bytes at " +++ h64 start

-- an object type that the authority may not seal or unseal with
abbrev pub type_outside : ℕ → ℕ → ℕ → Spot → List ℕ
type_outside otype base top authority =
    codes "type " +++ h64 otype +++ codes " is not in " +++ h64 base +++ codes " " +++ h65 top
    +++ codes " of " +++ spot_name authority

-- why a tag was lost
unfoldable pub why_text : Why → List ℕ
why_text why.AskedFor = codes "asked for"
why_text why.UpperReplaced = codes "upper half replaced"
why_text (why.Sealed name otype) = sealed name otype
why_text (why.OutsideRegion address power start) = outside_region address power start
why_text (why.BaseBelow base limit) =
    codes "base " +++ h64 base +++ codes " is below " +++ h64 limit
why_text (why.EndAbove end limit) = codes "end " +++ h65 end +++ codes " is above " +++ h65 limit
why_text (why.Rounds base top) = codes "rounds to " +++ h64 base +++ codes " " +++ h65 top
why_text (why.Lacks name permission) = lacks name permission
why_text (why.Untagged name) = untagged name
why_text (why.TypeOutside otype base top authority) = type_outside otype base top authority
why_text (why.TypeAbove otype) = codes "type " +++ h64 otype +++ codes " is above 262139"
why_text (why.NotSealed name) = spot_name name +++ codes " is not sealed"
why_text (why.Sentry name) = spot_name name +++ codes " is sealed as sentry"
why_text (why.TypeDiffers otype authority sealed_type) =
    codes "type " +++ h64 otype +++ codes " of " +++ spot_name authority +++ codes " is not "
    +++ decimal sealed_type
why_text (why.ReservedBits name) = spot_name name +++ codes " has reserved bits"
why_text (why.TopAbove top limit) = codes "top " +++ h65 top +++ codes " is above " +++ h65 limit
why_text (why.BaseAboveTop base top) =
    codes "base " +++ h64 base +++ codes " is above top " +++ h65 top
why_text (why.MorePermissions name permissions source) =
    spot_name name +++ codes " has " +++ permission_names permissions.0 +++ codes " that "
    +++ spot_name source +++ codes " lacks"
why_text (why.NotAligned alignment) = codes "bounds are no multiples of " +++ h64 alignment
why_text why.DataStored = codes "data over a capability"

-- bytes that are not in the bounds of a register
abbrev pub outside : ℕ → ℕ → ℕ → ℕ → Spot → List ℕ
outside bytes address base top name =
    decimal bytes +++ codes " bytes at " +++ h64 address +++ codes " are not in " +++ h64 base
    +++ codes " " +++ h65 top +++ codes " of " +++ spot_name name

-- why a step trapped
unfoldable pub trap_why_text : TrapWhy → List ℕ
trap_why_text (trap_why.Untagged name) = untagged name
trap_why_text (trap_why.Sealed name otype) = sealed name otype
trap_why_text (trap_why.NotInvocable name) = spot_name name +++ codes " is not sealed with a type"
trap_why_text (trap_why.Lacks name permission) = lacks name permission
trap_why_text (trap_why.HasExecute name) = spot_name name +++ codes " has execute"
trap_why_text (trap_why.LacksStoreCap name stored) =
    spot_name name +++ codes " has no store_cap for a tagged " +++ spot_name stored
trap_why_text (trap_why.LacksStoreLocal name stored) =
    spot_name name +++ codes " has no store_local for a local " +++ spot_name stored
trap_why_text (trap_why.Outside bytes address base top name) = outside bytes address base top name
trap_why_text (trap_why.Misaligned address bytes) =
    h64 address +++ codes " is no multiple of " +++ decimal bytes
trap_why_text (trap_why.NotInRam bytes address) =
    decimal bytes +++ codes " bytes at " +++ h64 address +++ codes " are not in RAM"
trap_why_text (trap_why.NoInstruction address) = codes "no instruction at " +++ h64 address
trap_why_text (trap_why.TypesDiffer code data_type) =
    codes "types " +++ decimal code +++ codes " and " +++ decimal data_type +++ codes " differ"
