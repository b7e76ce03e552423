use Rattle.asm_promises.proofs.Symbols.{stacks_overlap_none}
use Rattle.asm_promises.proofs.laws.stacks_overlap_no_symbol.Goals as goal

pub returns : goal.returns
returns c = λ texts harts a few e. stacks_overlap_none texts harts a few e
