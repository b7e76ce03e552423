use Rattle.shown_states.proofs.MeantLemmas.{is_meant, granule_within}
use Rattle.shown_states.proofs.seen.SeenStateStateView.granule.Goals as goal

pub granule-requires-clause-granule : goal.granule-requires-clause-granule
granule-requires-clause-granule c =
    granule_within c.self.inside.state.store.now c.self.inside.state.row.now c.args.self.now c.args.number c.self.invariant c.self.view_is
    c.requires

pub returns : goal.returns
returns c =
    c.granule.ensures c.args.self.now
    (is_meant c.self.inside.state.store.now c.self.inside.state.row.now c.args.self.now c.self.invariant c.self.view_is)
