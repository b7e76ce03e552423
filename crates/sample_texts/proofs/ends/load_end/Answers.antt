use Rattle.std.proofs.Common.{refl, sym, subst}
use Rattle.std.specs.Prelude.{Option, IsSome}
use Rattle.cheri_model.specs.runs.Machine.{MachineState}
use Rattle.sample_tallies.proofs.EndLemmas.{end_at, loaded_size}
use Rattle.sample_texts.proofs.ends.load_end.Goals as goal

pub load-requires-clause-state : goal.load-requires-clause-state
load-requires-clause-state c =
    let end = end_at c.args.tally.now.sum.ends c.args.number c.requires.there in
    subst (λ (o : Option MachineState). IsSome o) (sym (c.end_state.ensures.state end.0 end.1)) refl

pub returns-clause-harts : goal.returns-clause-harts
returns-clause-harts c =
    let end = end_at c.args.tally.now.sum.ends c.args.number c.requires.there in
    let means = c.end_state.ensures.state end.0 end.1 in
    (loaded_size c.end_state.result.store.now c.end_state.result.row.now end.0.key c.load.new.self
    c.args.tally.now.harts c.args.tally.now.granules means (c.load.ensures end.0.key means) c.end_state.ensures.harts
    c.end_state.ensures.granules).0

pub returns-clause-granules : goal.returns-clause-granules
returns-clause-granules c =
    let end = end_at c.args.tally.now.sum.ends c.args.number c.requires.there in
    let means = c.end_state.ensures.state end.0 end.1 in
    (loaded_size c.end_state.result.store.now c.end_state.result.row.now end.0.key c.load.new.self
    c.args.tally.now.harts c.args.tally.now.granules means (c.load.ensures end.0.key means) c.end_state.ensures.harts
    c.end_state.ensures.granules).1
