use Rattle.std.proofs.Common.{ap, ◌∙◌}
use Rattle.std.proofs.lemmas.Result.{IfOk-weaker}
use Rattle.outcomes.specs.Items.{values_of}
use Rattle.outcomes.specs.Rows.{values_at}
use Rattle.state_store.specs.Stores.{state_of}
use Rattle.outcomes.proofs.OutcomeLemmas.{meant_is}
use Rattle.outcomes.proofs.items.values_of.Goals as goal

pub returns : goal.returns
unfolding values_at
returns g c =
    let seen = meant_is (g.S.NumberedStates.at c.args.states.now c.args.number)
    (state_of c.state.result.store.now c.state.result.row.now) c.new-state.result
    c.state.ensures.state c.state.ensures.meant c.new-state.ensures in
    IfOk-weaker c.values_in.result _ _ (λ values is. is ∙ ap (values_of c.args.shown.now) seen) c.values_in.ensures
