use Rattle.asm_promises.proofs.Stacks.{stacks_apart}
use Rattle.asm_promises.proofs.laws.stacks_are_apart.Goals as goal

pub returns : goal.returns
returns c = λ texts harts a e. stacks_apart texts harts a e
