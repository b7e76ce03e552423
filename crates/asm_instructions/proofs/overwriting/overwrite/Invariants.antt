use Rattle.std.proofs.Common.{◌≡◌, drop}
use Rattle.asm_instructions.specs.Overwriting.{overwritten}
use Rattle.asm_instructions.proofs.overwriting.overwrite.Given as goal

-- those so far, and then the others
abbrev pub invariant-loop-instr : goal.invariant-loop-instr
invariant-loop-instr l = overwritten l.code l.place (drop l.instr-index l.instrs) ≡ overwritten l.initial.code l.at l.instrs
