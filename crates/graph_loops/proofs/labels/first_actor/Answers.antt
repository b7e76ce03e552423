use Rattle.graph_loops.proofs.LabelLemmas.{takes_item}
use Rattle.graph_loops.proofs.labels.first_actor.Goals as goal

pub returns-then-label-actors : goal.returns-then-label-actors
returns-then-label-actors c =
    (c.if-label-actors.true, takes_item c.args.labels.now c.loop-label.label-index c.loop-label-test.true)
