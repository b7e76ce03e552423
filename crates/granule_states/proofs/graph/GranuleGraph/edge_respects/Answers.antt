use Rattle.std.proofs.Common.{◌≡◌, sym, ◌∙◌, length}
use Rattle.std.specs.Prelude.{[], ◌∷◌, Bool, Some, true}
use Rattle.std.proofs.lemmas.List.{length-take-le}
use Rattle.std.proofs.lemmas.Result.{IfOk-weaker}
use Rattle.cheri_model.specs.runs.Machine.{MachineState}
use Rattle.explore_turns.specs.declared.quiet.TheConstants.{MAX_QUIET_STEPS}
use Rattle.own_granules.specs.Rests.{way_passes}
use Rattle.schedules.specs.Schedules.{next}
use Rattle.state_store.proofs.NumberedLemmas.{some_of}
use Rattle.states.proofs.NodeLemmas.{node_of}
use Rattle.granule_states.specs.Graphs.{quiet_in, state_in, step_in}
use Rattle.granule_states.specs.Owners.{EdgePasses, passes_in}
use Rattle.granule_states.proofs.ScanLemmas.{edge_leads, edge_none, edge_passes, edge_runs, led_some, way_before}
use Rattle.granule_states.proofs.graph.GranuleGraph.edge_respects.Goals as goal

pub returns-then-not-branch-clause-edge : goal.returns-then-not-branch-clause-edge
returns-then-not-branch-clause-edge c s is holds =
    edge_none c.args.self.now c.args.owners.now s c.args.label (state_in c.take_step.new.self) c.take_step.new.to
    c.in_ok-take_step.field-0 c.if-not-branch.true (c.in_ok-take_step.ensures.value s is)

pub way_respects-requires-clause-meant : goal.way_respects-requires-clause-meant
way_respects-requires-clause-meant c =
    let s = some_of (state_in c.args.self.now c.args.node.now) c.requires.meant in
    led_some (state_in c.take_step.new.self) c.take_step.new.to c.in_ok-take_step.field-0
    (next c.args.self.now.graph.image [] s.0 c.args.label) c.if-not-branch.false (c.in_ok-take_step.ensures.value s.0 s.1)

pub returns-clause-edge : goal.returns-clause-edge
returns-clause-edge c =
    IfOk-weaker c.way_respects.result
    (λ (passes : Bool). (t : MachineState) → state_in c.take_step.new.self c.take_step.new.to ≡ Some t → passes ≡ true →
    way_passes (step_in c.take_step.new.self) (quiet_in c.take_step.new.self) (passes_in c.take_step.new.self c.args.owners.now)
    c.args.label MAX_QUIET_STEPS t ≡ true)
    (λ (passes : Bool). (s : MachineState) → state_in c.args.self.now c.args.node.now ≡ Some s → passes ≡ true →
    EdgePasses c.args.self.now c.args.owners.now s c.args.label)
    (λ passes way s is holds t goes.
    let low = c.requires.labelled in
    let there = edge_leads c.args.self.now s t c.args.label (state_in c.take_step.new.self) c.take_step.new.to
    c.in_ok-take_step.field-0 goes (c.in_ok-take_step.ensures.value s is) in (
      c.respects-respects.ensures s is c.if-not-respects.false (edge_runs c.args.self.now.graph.image s t c.args.label low goes),
      edge_passes c.args.self.now c.args.owners.now s t c.args.label low
          (way_before c.args.self.now c.take_step.new.self c.take_step.ensures.learns c.args.owners.now t c.args.label (way t there holds)),
    ))
    c.way_respects.ensures.way

pub slice_bounds-to-end : goal.slice_bounds-to-end
slice_bounds-to-end c = c.requires.few

pub slice_bounds-to-end-2 : goal.slice_bounds-to-end-2
slice_bounds-to-end-2 c = sym (length-take-le (length c.args.node.now) (0 ∷ 0 ∷ 0 ∷ 0 ∷ 0 ∷ 0 ∷ 0 ∷ 0 ∷ 0 ∷ []) c.requires.few)

pub take_step-requires-clause-room : goal.take_step-requires-clause-room
take_step-requires-clause-room c =
    let s = some_of (state_in c.args.self.now c.args.node.now) c.requires.meant in
    length-take-le (length c.args.node.now) (0 ∷ 0 ∷ 0 ∷ 0 ∷ 0 ∷ 0 ∷ 0 ∷ 0 ∷ 0 ∷ []) c.requires.few
    ∙ (node_of c.args.self.now.graph c.args.node.now s.0 s.1).width
