use Rattle.std.proofs.Common.{length, ap, sym, ◌∙◌, subst, arith}
use Rattle.cheri_model.specs.runs.Machine.{MachineState}
use Rattle.state_store.specs.Stores.{state_of}
use Rattle.state_store.proofs.NumberedLemmas.{some_of}
use Rattle.states.proofs.OpeningLemmas.{opening_granules, opening_harts}
use Rattle.states.specs.Kept.{IsWitnessOrder}
use Rattle.std.specs.Prelude.{Some}
use Rattle.found_texts.proofs.finding.witnessed.Goals as goal

pub load-requires-clause-harts : goal.load-requires-clause-harts
load-requires-clause-harts c =
    let size = ap (λ (s : MachineState). length s.harts) (c.in_ok-state.ensures ∙ (c.view-view.ensures.state ∙ c.requires.opening)) in
    let harts = opening_harts c.args.kept.now.image in
    let row = c.state.ensures.harts in
    omega arith

pub load-requires-clause-granules : goal.load-requires-clause-granules
load-requires-clause-granules c =
    let size = ap (λ (s : MachineState). length s.memory) (c.in_ok-state.ensures ∙ (c.view-view.ensures.state ∙ c.requires.opening)) in
    let formed = rw c.image.ensures at c.granules-granules.ensures.formed in
    let granules = opening_granules c.args.kept.now.image formed in
    let store = c.state.ensures.granules in
    omega arith

pub returns : goal.returns
returns c =
    let s = some_of (state_of c.state.result.store.now c.state.result.row.now) c.state.ensures.meant in
    let there = c.state.ensures.state ∙ s.1 in
    let loaded = c.load.ensures s.0 s.1 in (
      there ∙ ap Some (sym loaded),
      subst (λ (t : MachineState). IsWitnessOrder c.args.kept.now.image c.args.kept.now.sweeps c.args.kept.now.sight t c.in_ok-order.order.items)
          (sym loaded) (c.in_ok-order.ensures s.0 there),
    )
