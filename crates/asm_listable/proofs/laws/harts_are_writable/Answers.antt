use Rattle.asm_listable.proofs.Harts.{hart_writable}
use Rattle.asm_listable.proofs.laws.harts_are_writable.Goals as goal

pub returns : goal.returns
returns c = λ registers places hart writable numbers h. hart_writable registers places hart writable numbers h
