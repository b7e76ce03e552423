use Rattle.std.proofs.Common.{◌≡◌, ◌<◌, ℕ, List, Vec, Global, ap, sym, ◌∙◌, subst}
use Rattle.std.specs.Prelude.{Some, IsSome, slice_get}
use Rattle.std.proofs.lemmas.Result.{IfOk-weaker}
use Rattle.cheri_model.specs.declared.operation.Op.{Op}
use Rattle.cheri_model.specs.runs.Machine.{MachineState}
use Rattle.schedules.specs.Schedules.{operation_of_label, AreLabelsOf}
use Rattle.states.specs.Kept.{KeptParts, kept_of, at, count, AreWitnessTurns}
use Rattle.states.proofs.KeptLemmas.{trace_turns, trace_labels, labels_mean}
use Rattle.states.proofs.kept.Kept.witness_turns.Goals as goal

pub operations-requires : goal.operations-requires
operations-requires c i l there =
    let view : KeptParts = kept_of c.self.inside.image c.self.inside.sweeps.items c.self.inside.sight c.self.inside.graph.store
    c.self.inside.reached c.self.inside.limit in
    let below : c.args.number < count view = subst (λ (k : KeptParts). c.args.number < count k) (sym c.self.view_is) c.requires in
    let s = c.self.invariant.search.meant c.args.number below in
    let means = trace_labels view c.args.number s.0 c.in_ok-labels.labels.items c.self.invariant.search s.1 c.in_ok-labels.ensures in
    subst (λ (k : KeptParts). IsSome (operation_of_label k.image k.sweeps l)) c.self.view_is
    (labels_mean view.image view.sweeps c.in_ok-labels.labels.items means.0 means.1 i l
    (ap (λ (ls : List ℕ). slice_get ls i) (sym c.as_slice.ensures.value) ∙ there))

pub returns : goal.returns
returns c =
    let view : KeptParts = kept_of c.self.inside.image c.self.inside.sweeps.items c.self.inside.sight c.self.inside.graph.store
    c.self.inside.reached c.self.inside.limit in
    IfOk-weaker c.operations.result
    (λ (ops : Vec Op Global). AreLabelsOf c.args.self.now.image c.args.self.now.sweeps c.as_slice.result.now ops.items)
    (λ (ops : Vec Op Global). (s : MachineState) → at c.args.self.now c.args.number ≡ Some s →
    AreWitnessTurns c.args.self.now.image c.args.self.now.sweeps c.args.self.now.sight s ops.items)
    (λ ops are s is.
    let there : at view c.args.number ≡ Some s = ap (λ (k : KeptParts). at k c.args.number) c.self.view_is ∙ is in
    let labelled : AreLabelsOf view.image view.sweeps c.in_ok-labels.labels.items ops.items =
    subst (λ (k : KeptParts). AreLabelsOf k.image k.sweeps c.in_ok-labels.labels.items ops.items) (sym c.self.view_is)
    (subst (λ (ls : List ℕ). AreLabelsOf c.args.self.now.image c.args.self.now.sweeps ls ops.items) c.as_slice.ensures.value are) in
    subst (λ (k : KeptParts). AreWitnessTurns k.image k.sweeps k.sight s ops.items) c.self.view_is
    (trace_turns view c.args.number s c.in_ok-labels.labels.items ops.items c.self.invariant.search there
    c.in_ok-labels.ensures labelled))
    c.operations.ensures
