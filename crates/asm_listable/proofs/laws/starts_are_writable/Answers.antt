use Rattle.asm_listable.proofs.Starts.{start_writable}
use Rattle.asm_listable.proofs.laws.starts_are_writable.Goals as goal

pub returns : goal.returns
returns c = λ scene number memory_end line words start sound small e. start_writable scene number memory_end line words start sound small e
