use Rattle.shown_states.proofs.MeantLemmas.{is_meant, hart_within}
use Rattle.shown_states.proofs.seen.SeenStateStateView.pcc.Goals as goal

pub pcc-requires-clause-hart : goal.pcc-requires-clause-hart
pcc-requires-clause-hart c =
    hart_within c.self.inside.state.store.now c.self.inside.state.row.now c.args.self.now c.args.hart c.self.invariant c.self.view_is c.requires

pub returns : goal.returns
returns c =
    c.pcc.ensures c.args.self.now
    (is_meant c.self.inside.state.store.now c.self.inside.state.row.now c.args.self.now c.self.invariant c.self.view_is)
