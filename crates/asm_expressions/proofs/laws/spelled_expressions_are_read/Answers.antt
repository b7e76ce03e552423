use Rattle.asm_expressions.proofs.GrammarLemmas.{whole_is_read}
use Rattle.asm_expressions.proofs.laws.spelled_expressions_are_read.Goals as goal

pub returns : goal.returns
returns c = λ tree at spelling rest token s ends. whole_is_read tree at spelling rest token s ends
