use Rattle.asm_promises.proofs.Origins.{origins_counted}
use Rattle.asm_promises.proofs.laws.every_instruction_has_its_origin.Goals as goal

pub returns : goal.returns
returns c = λ texts harts a e. origins_counted texts harts a e
