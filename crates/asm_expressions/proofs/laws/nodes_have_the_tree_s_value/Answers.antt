use Rattle.asm_expressions.proofs.TreeLemmas.{tree_worked}
use Rattle.asm_expressions.proofs.laws.nodes_have_the_tree_s_value.Goals as goal

pub returns : goal.returns
returns g c = λ tree least at spelling s. tree_worked _ tree least at spelling s
