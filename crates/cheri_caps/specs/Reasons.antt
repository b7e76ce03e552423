-- Why a result has no tag, as a number: which instruction a number asks about, and which line of
-- its table of reasons is the first that holds.
use Rattle.std.specs.Prelude.{ℕ, ◌==◌, Option, None, Some, if◌then◌else◌}
use Rattle.cap_model.specs.declared.reason.Reason.{Reason}
use Rattle.cap_model.specs.declared.reason.Reason.TheVariants as reason
use Rattle.cap_model.specs.values.CapValue.{CapValue}
use Rattle.cap_model.specs.results.CapInstructions as cap
use Rattle.cap_model.specs.results.Reasons.{first_reason, reasons}
use Rattle.cheri_caps.specs.declared.operations.TheConstants as operation

-- the instruction with this number
abbrev pub instruction_of : ℕ → Option cap.CapInstruction
instruction_of number =
    if number == operation.MOVE then Some cap.CMove
    else if number == operation.CLEAR_TAG then Some cap.CClearTag
    else if number == operation.SET_ADDRESS then Some cap.CSetAddr
    else if number == operation.INC_OFFSET then Some cap.CIncOffset
    else if number == operation.SET_BOUNDS then Some cap.CSetBounds
    else if number == operation.SET_BOUNDS_EXACT then Some cap.CSetBoundsExact
    else if number == operation.AND_PERMS then Some cap.CAndPerm
    else if number == operation.SET_FLAGS then Some cap.CSetFlags
    else if number == operation.SET_HIGH then Some cap.CSetHigh
    else if number == operation.SEAL then Some cap.CSeal
    else if number == operation.UNSEAL then Some cap.CUnseal
    else if number == operation.SEAL_ENTRY then Some cap.CSealEntry
    else if number == operation.BUILD then Some cap.CBuildCap
    else if number == operation.UNSEALED_BY_JUMP then Some cap.UnsealedByJump
    else None

-- the number of a reason
abbrev pub reason_number : Reason → ℕ
reason_number reason.Cleared = 1
reason_number reason.UpperReplaced = 2
reason_number reason.SourceUntagged = 3
reason_number reason.SourceSealed = 4
reason_number reason.SourceUnsealed = 5
reason_number reason.SourceSentry = 6
reason_number reason.AuthorityUntagged = 7
reason_number reason.AuthoritySealed = 8
reason_number reason.NoExecute = 9
reason_number reason.NoSeal = 10
reason_number reason.NoUnseal = 11
reason_number reason.NotRepresentable = 12
reason_number reason.BaseBelow = 13
reason_number reason.EndAbove = 14
reason_number reason.TopAbove = 15
reason_number reason.Rounded = 16
reason_number reason.TypeOutside = 17
reason_number reason.TypeNotSealable = 18
reason_number reason.TypeDiffers = 19
reason_number reason.ReservedBits = 20
reason_number reason.BaseAboveTop = 21
reason_number reason.MorePermissions = 22
reason_number reason.NotAligned = 23

-- 0 where there is no reason
abbrev pub number_of : Option Reason → ℕ
number_of None = 0
number_of (Some first) = reason_number first

-- why the result of an instruction on two values has no tag
unfoldable pub why : Option cap.CapInstruction → CapValue → CapValue → ℕ
why None v w = operation.NO_OPERATION
why (Some instruction) v w = number_of (first_reason (reasons instruction v w))
