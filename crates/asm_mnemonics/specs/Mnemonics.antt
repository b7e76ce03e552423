-- The names of instructions: those of the machine, and those that stand for others.
use Rattle.std.specs.Prelude.{ℕ, List, [], ◌∷◌, codes, Option}
use Rattle.cheri_model.specs.instructions.Tables.{found_at}
use Rattle.cheri_model.specs.declared.form.ThreeOp.TheVariants as three
use Rattle.cheri_model.specs.declared.form.TwoOp.TheVariants as two
use Rattle.cheri_model.specs.declared.form.ImmediateOp.TheVariants as immediate
use Rattle.cheri_model.specs.declared.form.ShiftOp.TheVariants as shift
use Rattle.cheri_model.specs.declared.form.WordShiftOp.TheVariants as word_shift
use Rattle.cheri_model.specs.declared.form.LoadOp.TheVariants as load
use Rattle.cheri_model.specs.declared.form.StoreOp.TheVariants as store
use Rattle.cheri_model.specs.declared.form.BranchOp.TheVariants as branch
use Rattle.asm_expansions.specs.declared.operation.PseudoTwoOp.TheVariants as pseudo_two
use Rattle.asm_expansions.specs.declared.operation.PseudoThreeOp.TheVariants as pseudo_three
use Rattle.asm_expansions.specs.declared.operation.PseudoBranchOp.TheVariants as pseudo_branch
use Rattle.asm_expansions.specs.declared.operation.ZeroBranchOp.TheVariants as zero_branch
use Rattle.asm_mnemonics.specs.declared.mnemonics.Mnemonic.{Mnemonic}
use Rattle.asm_mnemonics.specs.declared.mnemonics.Mnemonic.TheVariants as names

abbrev pub mnemonic_table : List (List ℕ × Mnemonic)
mnemonic_table =
    (codes "sub", (names.Three three.Sub)) ∷ (codes "subw", (names.Three three.Subw)) ∷
    (codes "add", (names.ThreeOrImmediate three.Add immediate.Addi)) ∷
    (codes "addi", (names.Immediate immediate.Addi)) ∷
    (codes "xor", (names.ThreeOrImmediate three.Xor immediate.Xori)) ∷
    (codes "xori", (names.Immediate immediate.Xori)) ∷
    (codes "or", (names.ThreeOrImmediate three.Or immediate.Ori)) ∷
    (codes "ori", (names.Immediate immediate.Ori)) ∷
    (codes "and", (names.ThreeOrImmediate three.And immediate.Andi)) ∷
    (codes "andi", (names.Immediate immediate.Andi)) ∷
    (codes "slt", (names.ThreeOrImmediate three.Slt immediate.Slti)) ∷
    (codes "slti", (names.Immediate immediate.Slti)) ∷
    (codes "sltu", (names.ThreeOrImmediate three.Sltu immediate.Sltiu)) ∷
    (codes "sltiu", (names.Immediate immediate.Sltiu)) ∷
    (codes "addw", (names.ThreeOrImmediate three.Addw immediate.Addiw)) ∷
    (codes "addiw", (names.Immediate immediate.Addiw)) ∷
    (codes "sll", (names.ThreeOrShift three.Sll shift.Slli)) ∷
    (codes "slli", (names.Shift shift.Slli)) ∷
    (codes "sllw", (names.ThreeOrWordShift three.Sllw word_shift.Slliw)) ∷
    (codes "slliw", (names.WordShift word_shift.Slliw)) ∷
    (codes "srl", (names.ThreeOrShift three.Srl shift.Srli)) ∷
    (codes "srli", (names.Shift shift.Srli)) ∷
    (codes "srlw", (names.ThreeOrWordShift three.Srlw word_shift.Srliw)) ∷
    (codes "srliw", (names.WordShift word_shift.Srliw)) ∷
    (codes "sra", (names.ThreeOrShift three.Sra shift.Srai)) ∷
    (codes "srai", (names.Shift shift.Srai)) ∷
    (codes "sraw", (names.ThreeOrWordShift three.Sraw word_shift.Sraiw)) ∷
    (codes "sraiw", (names.WordShift word_shift.Sraiw)) ∷ (codes "lui", names.Lui) ∷
    (codes "auipcc", names.Auipcc) ∷ (codes "lb", (names.Load load.Lb)) ∷
    (codes "clb", (names.Load load.Lb)) ∷ (codes "lb.cap", (names.LoadAlone load.Lb)) ∷
    (codes "lh", (names.Load load.Lh)) ∷ (codes "clh", (names.Load load.Lh)) ∷
    (codes "lh.cap", (names.LoadAlone load.Lh)) ∷ (codes "lw", (names.Load load.Lw)) ∷
    (codes "clw", (names.Load load.Lw)) ∷ (codes "lw.cap", (names.LoadAlone load.Lw)) ∷
    (codes "ld", (names.Load load.Ld)) ∷ (codes "cld", (names.Load load.Ld)) ∷
    (codes "ld.cap", (names.LoadAlone load.Ld)) ∷ (codes "lbu", (names.Load load.Lbu)) ∷
    (codes "clbu", (names.Load load.Lbu)) ∷ (codes "lbu.cap", (names.LoadAlone load.Lbu)) ∷
    (codes "lhu", (names.Load load.Lhu)) ∷ (codes "clhu", (names.Load load.Lhu)) ∷
    (codes "lhu.cap", (names.LoadAlone load.Lhu)) ∷ (codes "lwu", (names.Load load.Lwu)) ∷
    (codes "clwu", (names.Load load.Lwu)) ∷ (codes "lwu.cap", (names.LoadAlone load.Lwu)) ∷
    (codes "sb", (names.Store store.Sb)) ∷ (codes "csb", (names.Store store.Sb)) ∷
    (codes "sb.cap", (names.StoreAlone store.Sb)) ∷ (codes "sh", (names.Store store.Sh)) ∷
    (codes "csh", (names.Store store.Sh)) ∷ (codes "sh.cap", (names.StoreAlone store.Sh)) ∷
    (codes "sw", (names.Store store.Sw)) ∷ (codes "csw", (names.Store store.Sw)) ∷
    (codes "sw.cap", (names.StoreAlone store.Sw)) ∷ (codes "sd", (names.Store store.Sd)) ∷
    (codes "csd", (names.Store store.Sd)) ∷ (codes "sd.cap", (names.StoreAlone store.Sd)) ∷
    (codes "lc", names.LoadCapability) ∷ (codes "clc", names.LoadCapability) ∷
    (codes "lc.cap", names.LoadCapabilityAlone) ∷ (codes "sc", names.StoreCapability) ∷
    (codes "csc", names.StoreCapability) ∷ (codes "sc.cap", names.StoreCapabilityAlone) ∷
    (codes "amoswap.c", names.Swap) ∷ (codes "camoswap.c", names.Swap) ∷
    (codes "amoswap.c.aq", names.Swap) ∷ (codes "camoswap.c.aq", names.Swap) ∷
    (codes "amoswap.c.rl", names.Swap) ∷ (codes "camoswap.c.rl", names.Swap) ∷
    (codes "amoswap.c.aqrl", names.Swap) ∷ (codes "camoswap.c.aqrl", names.Swap) ∷
    (codes "beq", (names.Branch branch.Beq)) ∷ (codes "bne", (names.Branch branch.Bne)) ∷
    (codes "blt", (names.Branch branch.Blt)) ∷ (codes "bge", (names.Branch branch.Bge)) ∷
    (codes "bltu", (names.Branch branch.Bltu)) ∷ (codes "bgeu", (names.Branch branch.Bgeu)) ∷
    (codes "bgt", (names.PseudoBranch pseudo_branch.Bgt)) ∷
    (codes "ble", (names.PseudoBranch pseudo_branch.Ble)) ∷
    (codes "bgtu", (names.PseudoBranch pseudo_branch.Bgtu)) ∷
    (codes "bleu", (names.PseudoBranch pseudo_branch.Bleu)) ∷
    (codes "beqz", (names.ZeroBranch zero_branch.Beqz)) ∷
    (codes "bnez", (names.ZeroBranch zero_branch.Bnez)) ∷
    (codes "bgez", (names.ZeroBranch zero_branch.Bgez)) ∷
    (codes "bltz", (names.ZeroBranch zero_branch.Bltz)) ∷
    (codes "blez", (names.ZeroBranch zero_branch.Blez)) ∷
    (codes "bgtz", (names.ZeroBranch zero_branch.Bgtz)) ∷ (codes "j", names.Jump) ∷
    (codes "cj", names.Jump) ∷ (codes "jal", names.JumpAndLink) ∷
    (codes "cjal", names.JumpAndLink) ∷ (codes "jalr", names.JumpRegisterAndLink) ∷
    (codes "cjalr", names.JumpRegisterAndLink) ∷ (codes "jalr.cap", names.JumpRegisterPlain) ∷
    (codes "jr", names.JumpRegister) ∷ (codes "cjr", names.JumpRegister) ∷
    (codes "ret", names.Return) ∷ (codes "cret", names.Return) ∷ (codes "ecall", names.Alone) ∷
    (codes "scall", names.Alone) ∷ (codes "unimp", names.Unimp) ∷ (codes "ebreak", names.Unimp) ∷
    (codes "sbreak", names.Unimp) ∷ (codes "nop", names.Nop) ∷ (codes "fence.tso", names.Nop) ∷
    (codes "fence", names.Fence) ∷ (codes "mv", (names.PseudoTwo pseudo_two.Mv)) ∷
    (codes "move", (names.PseudoTwo pseudo_two.Mv)) ∷
    (codes "not", (names.PseudoTwo pseudo_two.Not)) ∷
    (codes "neg", (names.PseudoTwo pseudo_two.Neg)) ∷
    (codes "negw", (names.PseudoTwo pseudo_two.Negw)) ∷
    (codes "sext.w", (names.PseudoTwo pseudo_two.SextW)) ∷
    (codes "zext.b", (names.PseudoTwo pseudo_two.ZextB)) ∷
    (codes "sext.b", (names.PseudoTwo pseudo_two.SextB)) ∷
    (codes "sext.h", (names.PseudoTwo pseudo_two.SextH)) ∷
    (codes "zext.h", (names.PseudoTwo pseudo_two.ZextH)) ∷
    (codes "zext.w", (names.PseudoTwo pseudo_two.ZextW)) ∷
    (codes "seqz", (names.PseudoTwo pseudo_two.Seqz)) ∷
    (codes "snez", (names.PseudoTwo pseudo_two.Snez)) ∷
    (codes "sltz", (names.PseudoTwo pseudo_two.Sltz)) ∷
    (codes "sgtz", (names.PseudoTwo pseudo_two.Sgtz)) ∷
    (codes "sgt", (names.PseudoThree pseudo_three.Sgt)) ∷
    (codes "sgtu", (names.PseudoThree pseudo_three.Sgtu)) ∷ (codes "li", names.Li) ∷
    (codes "cgetperm", (names.Inspect two.CGetPerm)) ∷
    (codes "cgettype", (names.Inspect two.CGetType)) ∷
    (codes "cgetbase", (names.Inspect two.CGetBase)) ∷
    (codes "cgetaddr", (names.Inspect two.CGetAddr)) ∷
    (codes "cgethigh", (names.Inspect two.CGetHigh)) ∷
    (codes "cgetflags", (names.Inspect two.CGetFlags)) ∷
    (codes "cgettag", (names.Inspect two.CGetTag)) ∷
    (codes "cgetlen", (names.Inspect two.CGetLen)) ∷
    (codes "cgetoffset", (names.Inspect two.CGetOffset)) ∷
    (codes "cgetsealed", (names.Inspect two.CGetSealed)) ∷
    (codes "cmove", (names.Modify two.CMove)) ∷
    (codes "ccleartag", (names.Modify two.CClearTag)) ∷
    (codes "csealentry", (names.Modify two.CSealEntry)) ∷
    (codes "crrl", (names.Round two.Crrl)) ∷
    (codes "croundrepresentablelength", (names.Round two.Crrl)) ∷
    (codes "cram", (names.Round two.Cram)) ∷
    (codes "crepresentablealignmentmask", (names.Round two.Cram)) ∷
    (codes "csetaddr", (names.ModifyBy three.CSetAddr)) ∷
    (codes "csetboundsexact", (names.ModifyBy three.CSetBoundsExact)) ∷
    (codes "candperm", (names.ModifyBy three.CAndPerm)) ∷
    (codes "csetflags", (names.ModifyBy three.CSetFlags)) ∷
    (codes "csethigh", (names.ModifyBy three.CSetHigh)) ∷ (codes "cincoffset", names.IncOffset) ∷
    (codes "cincoffsetimm", names.IncOffsetImm) ∷ (codes "csetbounds", names.SetBounds) ∷
    (codes "csetboundsimm", names.SetBoundsImm) ∷
    (codes "cseal", (names.ModifyTogether three.CSeal)) ∷
    (codes "cunseal", (names.ModifyTogether three.CUnseal)) ∷
    (codes "cbuildcap", (names.ModifyTogether three.CBuildCap)) ∷
    (codes "ctestsubset", (names.Compare three.CTestSubset)) ∷
    (codes "csetequalexact", (names.Compare three.CSetEqualExact)) ∷
    (codes "cseqx", (names.Compare three.CSetEqualExact)) ∷ (codes "csub", names.Csub) ∷
    (codes "cinvoke", names.Invoke) ∷ (codes "ccall", names.Call) ∷ (codes "call", names.Call) ∷
    (codes "ctail", names.Tail) ∷ (codes "tail", names.Tail) ∷ (codes "cllc", names.Cllc) ∷
    (codes "clgc", names.Clgc) ∷ (codes "la", names.La) ∷ (codes "lla", names.La) ∷ []

-- what a name in small letters says
unfoldable pub mnemonic_of : List ℕ → Option Mnemonic
mnemonic_of name = found_at mnemonic_table name
