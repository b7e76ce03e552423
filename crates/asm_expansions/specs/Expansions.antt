-- The table: what each instruction of assembly stands for, with its value. `None` where the value
-- is out of the instruction's range.
use Rattle.std.specs.Prelude.{ℕ, ℤ, pos, negsuc, ◌-◌, ◌^◌, List, [], ◌∷◌, Option, Some, None}
use Rattle.std.specs.Prelude.{option_map, length}
use Rattle.cheri_model.specs.declared.form.Form.{Form}
use Rattle.cheri_model.specs.declared.form.Form.TheVariants as form
use Rattle.cheri_model.specs.declared.instr.Instr.{Instr}
use Rattle.cheri_model.specs.declared.instr.Instr.TheVariants as instr
use Rattle.cheri_model.specs.declared.operands.TheConstants.{MAX_SHIFT, MAX_WORD_SHIFT}
use Rattle.cheri_model.specs.declared.operands.TheConstants.{MAX_IMMEDIATE_LENGTH}
use Rattle.cheri_model.specs.declared.operands.TheConstants.{MAX_UPPER_IMMEDIATE}
use Rattle.cheri_model.specs.instructions.Form.{instr_of, load_instr}
use Rattle.asm_expansions.specs.declared.expansion.Expansion.{Expansion}
use Rattle.asm_expansions.specs.declared.expansion.Expansion.TheVariants as expansion
use Rattle.asm_expansions.specs.declared.operation.Operation.{Operation}
use Rattle.asm_expansions.specs.declared.operation.Operation.TheVariants as operation
use Rattle.asm_expansions.specs.declared.operation.PseudoTwoOp.{PseudoTwoOp}
use Rattle.asm_expansions.specs.declared.operation.PseudoTwoOp.TheVariants as two
use Rattle.asm_expansions.specs.declared.operation.PseudoThreeOp.{PseudoThreeOp}
use Rattle.asm_expansions.specs.declared.operation.PseudoThreeOp.TheVariants as three
use Rattle.asm_expansions.specs.declared.operation.PseudoBranchOp.{PseudoBranchOp}
use Rattle.asm_expansions.specs.declared.operation.PseudoBranchOp.TheVariants as branch
use Rattle.asm_expansions.specs.declared.operation.ZeroBranchOp.{ZeroBranchOp}
use Rattle.asm_expansions.specs.declared.operation.ZeroBranchOp.TheVariants as zero_op
use Rattle.asm_expansions.specs.Immediates.{bits_of, low, high_field, signed, up_to}
use Rattle.asm_expansions.specs.Constants.{li}

-- the instructions of an expansion
unfoldable pub instrs_of : Expansion → List Instr
instrs_of (expansion.One first) = first ∷ []
instrs_of (expansion.Two first second) = first ∷ second ∷ []
instrs_of (expansion.Constant rd n) = li rd n

-- one instruction with a value, where this is in its range
abbrev pub one : {A : Type 0} → (A → Form) → Option A → Option (List Instr)
one form value = option_map (λ operand. instr_of (form operand) ∷ []) value

-- the number of the instruction that a branch or a jump goes to
abbrev pub target : ℤ → Option ℕ
target value = up_to (2 ^ 32 - 1) value

-- `auipcc` to a distance, and an instruction that takes the distance's low part
unfoldable pub reaching : ℕ → Instr → Option ℕ → Option (List Instr)
reaching cd second None = None
reaching cd second (Some field) = Some (instr.AuiPcc cd field ∷ second ∷ [])

abbrev pub pair : ℕ → Instr → ℤ → Option (List Instr)
pair cd second distance = reaching cd second (high_field distance)

-- the register that a tail call goes through: ct1
abbrev pub tail_register : ℕ
tail_register = 6

-- the instructions of the pseudo-instructions on registers alone
unfoldable pub pseudo_two : PseudoTwoOp → ℕ → ℕ → List Instr
pseudo_two two.Mv d s = instr.Addi d s (pos 0) ∷ []
pseudo_two two.Not d s = instr.Xori d s (negsuc 0) ∷ []
pseudo_two two.Neg d s = instr.Sub d 0 s ∷ []
pseudo_two two.Negw d s = instr.Subw d 0 s ∷ []
pseudo_two two.SextW d s = instr.Addiw d s (pos 0) ∷ []
pseudo_two two.ZextB d s = instr.Andi d s (pos 255) ∷ []
pseudo_two two.SextB d s = instr.Slli d s 56 ∷ instr.Srai d d 56 ∷ []
pseudo_two two.SextH d s = instr.Slli d s 48 ∷ instr.Srai d d 48 ∷ []
pseudo_two two.ZextH d s = instr.Slli d s 48 ∷ instr.Srli d d 48 ∷ []
pseudo_two two.ZextW d s = instr.Slli d s 32 ∷ instr.Srli d d 32 ∷ []
pseudo_two two.Seqz d s = instr.Sltiu d s (pos 1) ∷ []
pseudo_two two.Snez d s = instr.Sltu d 0 s ∷ []
pseudo_two two.Sltz d s = instr.Slt d s 0 ∷ []
pseudo_two two.Sgtz d s = instr.Slt d 0 s ∷ []

unfoldable pub pseudo_three : PseudoThreeOp → ℕ → ℕ → ℕ → Instr
pseudo_three three.Sgt d s t = instr.Slt d t s
pseudo_three three.Sgtu d s t = instr.Sltu d t s
pseudo_three three.CSub d s t = instr.Sub d s t

unfoldable pub pseudo_branch : PseudoBranchOp → ℕ → ℕ → ℕ → Instr
pseudo_branch branch.Bgt s t target = instr.Blt t s target
pseudo_branch branch.Ble s t target = instr.Bge t s target
pseudo_branch branch.Bgtu s t target = instr.Bltu t s target
pseudo_branch branch.Bleu s t target = instr.Bgeu t s target

unfoldable pub zero_branch : ZeroBranchOp → ℕ → ℕ → Instr
zero_branch zero_op.Beqz s target = instr.Beq s 0 target
zero_branch zero_op.Bnez s target = instr.Bne s 0 target
zero_branch zero_op.Bltz s target = instr.Blt s 0 target
zero_branch zero_op.Bgez s target = instr.Bge s 0 target
zero_branch zero_op.Bgtz s target = instr.Blt 0 s target
zero_branch zero_op.Blez s target = instr.Bge 0 s target

unfoldable pub expansion_of : Operation → ℤ → Option (List Instr)
-- the machine's own
expansion_of (operation.Three op cd c1 c2) value = Some (instr_of (form.Three op cd c1 c2) ∷ [])
expansion_of (operation.Two op cd c1) value = Some (instr_of (form.Two op cd c1) ∷ [])
expansion_of (operation.Immediate op cd c1) value = one (form.Immediate op cd c1) (signed value)
expansion_of (operation.Shift op cd c1) value = one (form.Shift op cd c1) (up_to MAX_SHIFT value)
expansion_of (operation.WordShift op cd c1) value =
    one (form.WordShift op cd c1) (up_to MAX_WORD_SHIFT value)
expansion_of (operation.SetBoundsImm cd c1) value =
    one (form.SetBoundsImm cd c1) (up_to MAX_IMMEDIATE_LENGTH value)
expansion_of (operation.Upper op cd) value =
    one (form.Upper op cd) (up_to MAX_UPPER_IMMEDIATE value)
expansion_of (operation.Load op cd c1) value = one (form.Load op cd c1) (signed value)
expansion_of (operation.Store op c2 c1) value = one (form.Store op c2 c1) (signed value)
expansion_of (operation.Swap cd c2 c1) value = Some (instr.AmoSwapC cd c2 c1 ∷ [])
expansion_of (operation.Branch op c1 c2) value = one (form.Branch op c1 c2) (target value)
expansion_of (operation.Jump cd) value = one (form.Jump cd) (target value)
expansion_of (operation.Invoke c1 c2) value = Some (instr.CInvoke c1 c2 ∷ [])
expansion_of operation.Alone value = Some (instr.Ecall ∷ [])
-- pseudo-instructions
expansion_of operation.Nop value = Some (instr.Addi 0 0 (pos 0) ∷ [])
expansion_of operation.Unimp value = Some (instr.CJalr 0 0 (pos 0) ∷ [])
expansion_of (operation.PseudoTwo op d s) value = Some (pseudo_two op d s)
expansion_of (operation.PseudoThree op d s t) value = Some (pseudo_three op d s t ∷ [])
expansion_of (operation.PseudoBranch op s t) value =
    option_map (λ number. pseudo_branch op s t number ∷ []) (target value)
expansion_of (operation.ZeroBranch op s) value =
    option_map (λ number. zero_branch op s number ∷ []) (target value)
expansion_of (operation.Li rd) value = Some (li rd value)
expansion_of (operation.Call cd) value = pair cd (instr.CJalr cd cd (low (bits_of value))) value
expansion_of operation.Tail value =
    pair tail_register (instr.CJalr 0 tail_register (low (bits_of value))) value
expansion_of (operation.Cllc cd) value =
    pair cd (instr.CIncOffsetImm cd cd (low (bits_of value))) value
expansion_of (operation.Clgc cd) value = pair cd (instr.Lc cd cd (low (bits_of value))) value
expansion_of (operation.LoadSymbol op rd) value =
    pair rd (load_instr op rd rd (low (bits_of value))) value
expansion_of (operation.La rd) value = pair rd (instr.Addi rd rd (low (bits_of value))) value

-- how many instructions that is
unfoldable pub count_of : Operation → ℤ → ℕ
count_of (operation.PseudoTwo op d s) value = length (pseudo_two op d s)
count_of (operation.Li rd) value = length (li rd value)
count_of (operation.Call cd) value = 2
count_of operation.Tail value = 2
count_of (operation.Cllc cd) value = 2
count_of (operation.Clgc cd) value = 2
count_of (operation.LoadSymbol op rd) value = 2
count_of (operation.La rd) value = 2
count_of _ value = 1
