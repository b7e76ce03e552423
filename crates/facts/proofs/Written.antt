-- What an instruction writes is the result of its derivation, or has no tag.
use Rattle.std.proofs.Common.{refl}
use Rattle.cheri_model.specs.declared.instr.Instr.{Instr}
use Rattle.cheri_model.specs.declared.instr.Instr.TheVariants as instr
use Rattle.cheri_model.specs.steps.Hart.{HartState}
use Rattle.cheri_model.specs.steps.Actions.{action}
use Rattle.facts.specs.Operands.{derivation_of}
use Rattle.facts.specs.ClearsLaw.{IsWritten}

pub written_result : (i : Instr) (hart : HartState) → IsWritten (derivation_of i hart) (action i hart)
unfolding derivation_of action
written_result (instr.Lb cd c1 imm) hart = tt
written_result (instr.Lbu cd c1 imm) hart = tt
written_result (instr.Lh cd c1 imm) hart = tt
written_result (instr.Lhu cd c1 imm) hart = tt
written_result (instr.Lw cd c1 imm) hart = tt
written_result (instr.Lwu cd c1 imm) hart = tt
written_result (instr.Ld cd c1 imm) hart = tt
written_result (instr.Lc cd c1 imm) hart = tt
written_result (instr.Sb c2 c1 imm) hart = tt
written_result (instr.Sh c2 c1 imm) hart = tt
written_result (instr.Sw c2 c1 imm) hart = tt
written_result (instr.Sd c2 c1 imm) hart = tt
written_result (instr.Sc c2 c1 imm) hart = tt
written_result (instr.AmoSwapC cd c2 c1) hart = tt
written_result (instr.Beq c1 c2 target) hart = tt
written_result (instr.Bne c1 c2 target) hart = tt
written_result (instr.Blt c1 c2 target) hart = tt
written_result (instr.Bge c1 c2 target) hart = tt
written_result (instr.Bltu c1 c2 target) hart = tt
written_result (instr.Bgeu c1 c2 target) hart = tt
written_result (instr.CJal cd target) hart = tt
written_result (instr.CJalr cd c1 imm) hart = tt
written_result (instr.CInvoke c1 c2) hart = tt
written_result instr.Ecall hart = tt
written_result _ hart = refl
