use Rattle.asm_harts.proofs.GivenLemmas.{given}
use Rattle.asm_harts.proofs.laws.registers_are_given.Goals as goal

pub returns : goal.returns
returns c = λ registers places hart place h. given registers places hart place h
