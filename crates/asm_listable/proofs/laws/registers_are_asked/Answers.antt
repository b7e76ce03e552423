use Rattle.asm_listable.proofs.Asked.{start_asked}
use Rattle.asm_listable.proofs.laws.registers_are_asked.Goals as goal

pub returns : goal.returns
returns c = λ scene number memory_end line words start place e. start_asked scene number memory_end line words start place e
