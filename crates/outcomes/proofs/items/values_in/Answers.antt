use Rattle.std.proofs.Common.{ap, map, ◌∙◌}
use Rattle.std.proofs.lemmas.List.{take_all}
use Rattle.outcomes.specs.Items.{value_of, values_of}
use Rattle.outcomes.proofs.items.values_in.Goals as goal

pub returns : goal.returns
unfolding values_of
returns g c =
    c.loop-item.invariant
    ∙ ap (map (value_of (g.V.StateView.state c.args.view.now))) (take_all c.loop-item.item-index c.args.shown.now c.loop-item-test.false)
