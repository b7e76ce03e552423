use Rattle.shown_states.proofs.MeantLemmas.{is_meant}
use Rattle.shown_states.proofs.seen.SeenStateStateView.granule_count.Goals as goal

pub returns : goal.returns
returns c =
    c.granule_count.ensures c.args.self.now
    (is_meant c.self.inside.state.store.now c.self.inside.state.row.now c.args.self.now c.self.invariant c.self.view_is)
