use Rattle.asm_chains.proofs.LawLemmas.{late_is_expression}
use Rattle.asm_chains.proofs.laws.values_by_a_table_are_values.Goals as goal

pub returns : goal.returns
returns g c = λ values setting nodes settled.
    late_is_expression (g.S.Scene.parts c.args._scene.now) values settled.0 settled.1 setting nodes
