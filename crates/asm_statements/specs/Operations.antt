-- What instructions do, with their registers in the order in which they are written. Which form of
-- a name was taken is told by their count.
use Rattle.std.specs.Prelude.{ℕ, nat_lt, if◌then◌else◌}
use Rattle.cheri_model.specs.declared.form.ImmediateOp.TheVariants.{CIncOffsetImm}
use Rattle.cheri_model.specs.declared.form.LoadOp.{LoadOp}
use Rattle.cheri_model.specs.declared.form.LoadOp.TheVariants.{Lc, CJalr}
use Rattle.cheri_model.specs.declared.form.StoreOp.TheVariants.{Sc}
use Rattle.cheri_model.specs.declared.form.ThreeOp.TheVariants.{CIncOffset, CSetBounds}
use Rattle.cheri_model.specs.declared.form.UpperOp.TheVariants.{Lui, AuiPcc}
use Rattle.asm_expansions.specs.declared.operation.Operation.{Operation}
use Rattle.asm_expansions.specs.declared.operation.Operation.TheVariants as does
use Rattle.asm_expansions.specs.declared.operation.PseudoThreeOp.TheVariants.{CSub}
use Rattle.asm_mnemonics.specs.declared.mnemonics.Mnemonic.{Mnemonic}
use Rattle.asm_mnemonics.specs.declared.mnemonics.Mnemonic.TheVariants as names
use Rattle.asm_statements.specs.declared.draft.Registers.{Registers}

-- the link and the register of a tail call's and a return's jump
abbrev pub null_register : ℕ
null_register = 0

abbrev pub return_register : ℕ
return_register = 1

-- three registers, or two and an immediate
abbrev pub by_count : Registers → Operation → Operation → Operation
by_count rs fewer three = if nat_lt rs.count 3 then fewer else three

-- a jump through a register, whose link goes to the register before it, else to this one
unfoldable pub through : Registers → ℕ → Operation
through rs other =
    if nat_lt rs.count 2 then does.Load CJalr other rs.first
    else does.Load CJalr rs.first rs.second

unfoldable pub link : Registers → ℕ → ℕ
link rs other = if nat_lt rs.count 1 then other else rs.first

-- from memory, or from a symbol
unfoldable pub load : Registers → LoadOp → Operation
load rs op =
    if nat_lt rs.count 2 then does.LoadSymbol op rs.first else does.Load op rs.first rs.second

unfoldable pub operation_of : Mnemonic → Registers → Operation
operation_of (names.Three op) rs = does.Three op rs.first rs.second rs.third
operation_of (names.ThreeOrImmediate op other) rs =
    by_count rs (does.Immediate other rs.first rs.second)
    (does.Three op rs.first rs.second rs.third)
operation_of (names.ThreeOrShift op other) rs =
    by_count rs (does.Shift other rs.first rs.second) (does.Three op rs.first rs.second rs.third)
operation_of (names.ThreeOrWordShift op other) rs =
    by_count rs (does.WordShift other rs.first rs.second)
    (does.Three op rs.first rs.second rs.third)
operation_of (names.Immediate op) rs = does.Immediate op rs.first rs.second
operation_of (names.Shift op) rs = does.Shift op rs.first rs.second
operation_of (names.WordShift op) rs = does.WordShift op rs.first rs.second
operation_of names.Lui rs = does.Upper Lui rs.first
operation_of names.Auipcc rs = does.Upper AuiPcc rs.first
operation_of (names.Load op) rs = load rs op
operation_of (names.LoadAlone op) rs = does.Load op rs.first rs.second
operation_of (names.Store op) rs = does.Store op rs.first rs.second
operation_of (names.StoreAlone op) rs = does.Store op rs.first rs.second
operation_of names.LoadCapability rs = does.Load Lc rs.first rs.second
operation_of names.LoadCapabilityAlone rs = does.Load Lc rs.first rs.second
operation_of names.StoreCapability rs = does.Store Sc rs.first rs.second
operation_of names.StoreCapabilityAlone rs = does.Store Sc rs.first rs.second
operation_of names.Swap rs = does.Swap rs.first rs.second rs.third
operation_of (names.Branch op) rs = does.Branch op rs.first rs.second
operation_of (names.PseudoBranch op) rs = does.PseudoBranch op rs.first rs.second
operation_of (names.ZeroBranch op) rs = does.ZeroBranch op rs.first
operation_of names.Jump rs = does.Jump null_register
operation_of names.JumpAndLink rs = does.Jump (link rs return_register)
operation_of names.JumpRegisterAndLink rs = through rs return_register
operation_of names.JumpRegisterPlain rs = does.Load CJalr rs.first rs.second
operation_of names.JumpRegister rs = does.Load CJalr null_register rs.first
operation_of names.Return rs = does.Load CJalr null_register return_register
operation_of names.Alone rs = does.Alone
operation_of names.Unimp rs = does.Unimp
operation_of names.Nop rs = does.Nop
operation_of names.Fence rs = does.Nop
operation_of (names.PseudoTwo op) rs = does.PseudoTwo op rs.first rs.second
operation_of (names.PseudoThree op) rs = does.PseudoThree op rs.first rs.second rs.third
operation_of names.Li rs = does.Li rs.first
operation_of (names.Inspect op) rs = does.Two op rs.first rs.second
operation_of (names.Modify op) rs = does.Two op rs.first rs.second
operation_of (names.Round op) rs = does.Two op rs.first rs.second
operation_of (names.ModifyBy op) rs = does.Three op rs.first rs.second rs.third
operation_of names.IncOffset rs =
    by_count rs (does.Immediate CIncOffsetImm rs.first rs.second)
    (does.Three CIncOffset rs.first rs.second rs.third)
operation_of names.IncOffsetImm rs = does.Immediate CIncOffsetImm rs.first rs.second
operation_of names.SetBounds rs =
    by_count rs (does.SetBoundsImm rs.first rs.second)
    (does.Three CSetBounds rs.first rs.second rs.third)
operation_of names.SetBoundsImm rs = does.SetBoundsImm rs.first rs.second
operation_of (names.ModifyTogether op) rs = does.Three op rs.first rs.second rs.third
operation_of (names.Compare op) rs = does.Three op rs.first rs.second rs.third
operation_of names.Csub rs = does.PseudoThree CSub rs.first rs.second rs.third
operation_of names.Invoke rs = does.Invoke rs.first rs.second
operation_of names.Call rs = does.Call (link rs return_register)
operation_of names.Tail rs = does.Tail
operation_of names.Cllc rs = does.Cllc rs.first
operation_of names.Clgc rs = does.Clgc rs.first
operation_of names.La rs = does.La rs.first
