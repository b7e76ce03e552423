use Rattle.asm_harts.proofs.StackLemmas.{apart}
use Rattle.asm_harts.proofs.laws.stacks_are_apart.Goals as goal

pub returns : goal.returns
returns c = λ registers places hart stack h has room. apart registers places hart stack h has room
