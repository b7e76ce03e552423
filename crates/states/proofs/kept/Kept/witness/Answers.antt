use Rattle.std.proofs.Common.{◌≡◌, ◌<◌, ℕ, List, Vec, Global, ap, sym, ◌∙◌, subst}
use Rattle.std.specs.Prelude.{Some, IsSome, slice_get}
use Rattle.std.proofs.lemmas.Result.{IfOk-weaker}
use Rattle.cheri_model.specs.declared.operation.Op.{Op}
use Rattle.cheri_model.specs.runs.Machine.{MachineState}
use Rattle.explore_turns.specs.Orders.{AreOfHarts, order_of_turns}
use Rattle.schedules.specs.declared.ranges.SweepRange.{SweepRange}
use Rattle.schedules.specs.Schedules.{operation_of_label, AreLabelsOf}
use Rattle.states.specs.Kept.{KeptParts, kept_of, at, count, IsWitnessOrder}
use Rattle.states.proofs.KeptLemmas.{trace_means, trace_labels, labels_mean, harts_of_labels}
use Rattle.states.proofs.kept.Kept.witness.Goals as goal

pub operations-requires : goal.operations-requires
operations-requires c i l there =
    let view : KeptParts = kept_of c.self.inside.image c.self.inside.sweeps.items c.self.inside.sight c.self.inside.graph.store
    c.self.inside.reached c.self.inside.limit in
    let below : c.args.number < count view = subst (λ (k : KeptParts). c.args.number < count k) (sym c.self.view_is) c.requires in
    let s = c.self.invariant.search.meant c.args.number below in
    let means = trace_labels view c.args.number s.0 c.in_ok-labels.labels.items c.self.invariant.search s.1 c.in_ok-labels.ensures in
    subst (λ (k : KeptParts). IsSome (operation_of_label k.image k.sweeps l)) c.self.view_is
    (labels_mean view.image view.sweeps c.in_ok-labels.labels.items means.0 means.1 i l
    (ap (λ (ls : List ℕ). slice_get ls i) (sym c.as_slice.ensures.value) ∙ there))

pub order_of_turns-requires : goal.order_of_turns-requires
order_of_turns-requires c =
    let view : KeptParts = kept_of c.self.inside.image c.self.inside.sweeps.items c.self.inside.sight c.self.inside.graph.store
    c.self.inside.reached c.self.inside.limit in
    let are : AreLabelsOf view.image view.sweeps c.as_slice.result.now c.in_ok-ops.ops.items =
    subst (λ (k : KeptParts). AreLabelsOf k.image k.sweeps c.as_slice.result.now c.in_ok-ops.ops.items) (sym c.self.view_is)
    c.in_ok-ops.ensures in
    subst (λ (os : List Op). AreOfHarts view.image os) (sym c.as_slice-2.ensures.value)
    (λ i hart at. harts_of_labels view.image view.sweeps c.as_slice.result.now c.in_ok-ops.ops.items are i hart at)

pub returns : goal.returns
returns c =
    let view : KeptParts = kept_of c.self.inside.image c.self.inside.sweeps.items c.self.inside.sight c.self.inside.graph.store
    c.self.inside.reached c.self.inside.limit in
    IfOk-weaker c.order_of_turns.result
    (λ (order : Vec Op Global). order.items ≡ order_of_turns view.image c.as_slice-sweeps.result.now view.sight c.as_slice-2.result.now)
    (λ (order : Vec Op Global). (s : MachineState) → at c.args.self.now c.args.number ≡ Some s →
    IsWitnessOrder c.args.self.now.image c.args.self.now.sweeps c.args.self.now.sight s order.items)
    (λ order made s is.
    let there : at view c.args.number ≡ Some s = ap (λ (k : KeptParts). at k c.args.number) c.self.view_is ∙ is in
    let are : AreLabelsOf view.image view.sweeps c.in_ok-labels.labels.items c.in_ok-ops.ops.items =
    subst (λ (k : KeptParts). AreLabelsOf k.image k.sweeps c.in_ok-labels.labels.items c.in_ok-ops.ops.items) (sym c.self.view_is)
    (subst (λ (ls : List ℕ). AreLabelsOf c.args.self.now.image c.args.self.now.sweeps ls c.in_ok-ops.ops.items) c.as_slice.ensures.value
    c.in_ok-ops.ensures) in
    let means = trace_means view c.args.number s c.in_ok-labels.labels.items c.in_ok-ops.ops.items c.self.invariant.search there
    c.in_ok-labels.ensures are in
    let same : order_of_turns view.image view.sweeps view.sight c.in_ok-ops.ops.items ≡ order.items =
    sym (made ∙ (ap (λ (ss : List SweepRange). order_of_turns view.image ss view.sight c.as_slice-2.result.now) c.as_slice-sweeps.ensures.value
    ∙ ap (λ (os : List Op). order_of_turns view.image view.sweeps view.sight os) c.as_slice-2.ensures.value)) in
    subst (λ (k : KeptParts). IsWitnessOrder k.image k.sweeps k.sight s order.items) c.self.view_is
    (subst (λ (o : List Op). IsWitnessOrder view.image view.sweeps view.sight s o) same means))
    c.order_of_turns.ensures
