-- Why a tag was lost: for each reason of the tables of reasons the numbers that it speaks of, and
-- which instruction lost which tag.
use Rattle.std.specs.Prelude.{ℕ, ◌+◌, ◌-◌, ◌%◌, ◌^◌, ◌==◌, Bool, true, false, not, ◌&&◌, ◌||◌}
use Rattle.std.specs.Prelude.{if◌then◌else◌, bit_and, List, [], ◌∷◌, Option, Some, None}
use Rattle.std.specs.Option.{option_map}
use Rattle.cap_model.specs.declared.perms.Perms.{Perms}
use Rattle.cap_model.specs.declared.permission.TheConstants as permission
use Rattle.cap_model.specs.declared.reason.Reason.{Reason}
use Rattle.cap_model.specs.declared.reason.Reason.TheVariants as reason
use Rattle.cap_model.specs.bounds.Numbers.{round_down}
use Rattle.cap_model.specs.bounds.Lengths.{exponent, alignment}
use Rattle.cap_model.specs.bounds.Rounding.{rounded_base, rounded_top}
use Rattle.cap_model.specs.values.CapValue.{CapValue, tag_of}
use Rattle.cap_model.specs.results.Addresses.{address_of, has_permission}
use Rattle.cap_model.specs.results.Readings.{base_of, top_of, object_type_of, permissions_of}
use Rattle.cap_model.specs.results.CapInstructions as cap
use Rattle.cap_model.specs.results.Reasons.{reasons}
use Rattle.cheri_model.specs.declared.instr.Instr.{Instr}
use Rattle.cheri_model.specs.steps.Hart.{HartState, register}
use Rattle.cheri_model.specs.steps.Actions.{Action, Put, Store, LoadCap, Swap}
use Rattle.cheri_model.specs.steps.Actions.{action}
use Rattle.origins.specs.declared.place.Spot.{Spot}
use Rattle.origins.specs.declared.place.Spot.TheVariants.{Register}
use Rattle.facts.specs.declared.operands.Operands.{Operands}
use Rattle.facts.specs.Operands.{Derivation, derivation_of}
use Rattle.facts.specs.declared.step_facts.Cleared.{Cleared}
use Rattle.facts.specs.declared.step_facts.NamedValue.{NamedValue}
use Rattle.facts.specs.declared.why.Why.{Why}
use Rattle.facts.specs.declared.why.Why.TheVariants as why

-- the address that the result gets where it is moved, and the value whose bounds that may change
abbrev pub new_address : cap.CapInstruction → CapValue → CapValue → ℕ
new_address cap.CIncOffset v w = (address_of v + address_of w) % 2 ^ 64
new_address _ v w = address_of w

abbrev pub moved_value : cap.CapInstruction → CapValue → CapValue → CapValue
moved_value cap.CBuildCap v w = w
moved_value _ v w = v

-- the base that is asked for: the source's address, or that of the word that is rebuilt
abbrev pub asked_base : cap.CapInstruction → CapValue → CapValue → ℕ
asked_base cap.CBuildCap v w = base_of w
asked_base _ v w = address_of v

-- the representable region of bounds: where it begins, and its size as a power of two (CHERI
-- Concentrate, "representable region")
abbrev pub region_exponent : ℕ → ℕ → ℕ
region_exponent base top = exponent (top - base)

abbrev pub region_start : ℕ → ℕ → ℕ
region_start e base = (2 ^ 64 + round_down (2 ^ (e + 11)) base - 2 ^ (e + 11)) % 2 ^ 64

abbrev pub outside_region : ℕ → ℕ → ℕ → Why
outside_region base top addr =
    let e = region_exponent base top in why.OutsideRegion addr (e + 14) (region_start e base)

-- the permissions of a value that another lacks
abbrev pub lacking : CapValue → CapValue → Perms
lacking w v = record { 0 = permissions_of w - bit_and (permissions_of w) (permissions_of v) }

-- the numbers that each reason speaks of
unfoldable pub why_of : cap.CapInstruction → Operands → Reason → Why
why_of op o reason.Cleared = why.AskedFor
why_of op o reason.UpperReplaced = why.UpperReplaced
why_of op o reason.SourceUntagged = why.Untagged o.source
why_of op o reason.SourceSealed = why.Sealed o.source (object_type_of o.v)
why_of op o reason.SourceUnsealed = why.NotSealed o.source
why_of op o reason.SourceSentry = why.Sentry o.source
why_of op o reason.AuthorityUntagged = why.Untagged o.authority
why_of op o reason.AuthoritySealed = why.Sealed o.authority (object_type_of o.w)
why_of op o reason.NoExecute = why.Lacks o.source permission.EXECUTE
why_of op o reason.NoSeal = why.Lacks o.authority permission.SEAL
why_of op o reason.NoUnseal = why.Lacks o.authority permission.UNSEAL
why_of op o reason.NotRepresentable =
    outside_region (base_of (moved_value op o.v o.w)) (top_of (moved_value op o.v o.w))
    (new_address op o.v o.w)
why_of op o reason.BaseBelow = why.BaseBelow (asked_base op o.v o.w) (base_of o.v)
why_of op o reason.EndAbove = why.EndAbove (address_of o.v + address_of o.w) (top_of o.v)
why_of op o reason.TopAbove = why.TopAbove (top_of o.w) (top_of o.v)
why_of op o reason.Rounded =
    why.Rounds (rounded_base (address_of o.v) (address_of o.w))
    (rounded_top (address_of o.v) (address_of o.w))
why_of op o reason.TypeOutside =
    why.TypeOutside (address_of o.w) (base_of o.w) (top_of o.w) o.authority
why_of op o reason.TypeNotSealable = why.TypeAbove (address_of o.w)
why_of op o reason.TypeDiffers = why.TypeDiffers (address_of o.w) o.authority (object_type_of o.v)
why_of op o reason.ReservedBits = why.ReservedBits o.authority
why_of op o reason.BaseAboveTop = why.BaseAboveTop (base_of o.w) (top_of o.w)
why_of op o reason.MorePermissions =
    why.MorePermissions o.authority (lacking o.w o.v) o.source
why_of op o reason.NotAligned = why.NotAligned (alignment (top_of o.w - base_of o.w))

-- the first line of a table that holds, with its numbers
unfoldable pub first_why : cap.CapInstruction → Operands → List (Bool × Reason) → Option Why
first_why op o [] = None
first_why op o (line ∷ rest) =
    if line.0 then Some (why_of op o line.1) else first_why op o rest

-- the first reason for a result without a tag
unfoldable pub why_lost : cap.CapInstruction → Operands → Option Why
why_lost op o = first_why op o (reasons op o.v o.w)

-- ---- what lost its tag

abbrev pub cleared : Spot → Why → Cleared
cleared name reason = record { name = name; why = reason }

-- the result of CBuildCap is explained wherever it has no tag
abbrev pub is_build : cap.CapInstruction → Bool
is_build cap.CBuildCap = true
is_build _ = false

-- the result that lost the tag of its source, and why; nothing is set in c0
unfoldable pub lost : cap.CapInstruction → Operands → Option Cleared
lost op o =
    if not (o.cd == 0) && (tag_of o.v || is_build op)
    then option_map (cleared (Register o.cd)) (why_lost op o)
    else None

abbrev pub lost_if : Option Derivation → Option Cleared
lost_if None = None
lost_if (Some d) = lost d.0 d.1

-- a capability that is found and loaded through a register without Load_Capability
abbrev pub lost_by_load : ℕ → ℕ → HartState → Option NamedValue → Option Cleared
lost_by_load cd c1 hart None = None
lost_by_load cd c1 hart (Some found) =
    if not (cd == 0) && tag_of found.value
    && not (has_permission (register hart c1) permission.LOAD_CAP)
    then Some (cleared (Register cd) (why.Lacks (Register c1) permission.LOAD_CAP))
    else None

-- data stored over a capability, whatever the bytes
abbrev pub lost_by_store : Option NamedValue → Option Cleared
lost_by_store None = None
lost_by_store (Some found) =
    if tag_of found.value then Some (cleared found.name why.DataStored) else None

-- what an action that is done clears, by the derivation that it comes from if it does, where it
-- finds this granule
abbrev pub lost_by : Action → Option Derivation → HartState → Option NamedValue → Option Cleared
lost_by (Put cd v) d hart found = lost_if d
lost_by (Store c1 addr width number) d hart found = lost_by_store found
lost_by (LoadCap cd c1 addr) d hart found = lost_by_load cd c1 hart found
lost_by (Swap cd c1 addr v) d hart found = lost_by_load cd c1 hart found
lost_by _ d hart found = None

unfoldable pub clears_of : Instr → HartState → Option NamedValue → Option Cleared
clears_of i hart found = lost_by (action i hart) (derivation_of i hart) hart found
