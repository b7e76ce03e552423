use Rattle.std.proofs.Common.{ℕ, subst}
use Rattle.graph_loops.specs.Loops.{Takes}
use Rattle.graph_loops.proofs.LabelLemmas.{takes_item}
use Rattle.graph_loops.proofs.labels.takes.Goals as goal

pub returns-then-label-wanted : goal.returns-then-label-wanted
returns-then-label-wanted c = λ _.
    subst (λ (m : ℕ). Takes c.args.labels.now m) c.if-label-wanted.true
    (takes_item c.args.labels.now c.loop-label.label-index c.loop-label-test.true)
