use Rattle.std.proofs.Common.{arith}
use Rattle.outcome_texts.proofs.PartLemmas.{loaded_is, loaded_sizes}
use Rattle.outcome_texts.proofs.listed.load_outcome.Goals as goal

pub load-requires-clause-harts : goal.load-requires-clause-harts
load-requires-clause-harts c = omega (arith, c.requires.harts, c.state.ensures.harts)

pub load-requires-clause-granules : goal.load-requires-clause-granules
load-requires-clause-granules c = omega (arith, c.requires.granules, c.state.ensures.granules)

pub returns-clause-state : goal.returns-clause-state
returns-clause-state c =
    loaded_is c.args.kept.now c.args.number c.state.result.store.now c.state.result.row.now c.load.new.self c.state.ensures.state
    c.state.ensures.meant c.load.ensures

pub returns-clause-harts : goal.returns-clause-harts
returns-clause-harts c =
    let sizes = loaded_sizes c.state.result.store.now c.state.result.row.now c.load.new.self c.state.ensures.meant c.load.ensures in
    omega (arith, sizes.0, c.state.ensures.harts)

pub returns-clause-granules : goal.returns-clause-granules
returns-clause-granules c =
    let sizes = loaded_sizes c.state.result.store.now c.state.result.row.now c.load.new.self c.state.ensures.meant c.load.ensures in
    omega (arith, sizes.1, c.state.ensures.granules)
