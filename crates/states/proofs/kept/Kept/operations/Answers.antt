use Rattle.std.proofs.Common.{◌≡◌, ℕ, List, [], ◌∷◌, ◌++◌, take, ap, sym, ◌∙◌, subst}
use Rattle.std.specs.Prelude.{Some, slice_index_or}
use Rattle.std.proofs.lemmas.List.{take_more, take_all}
use Rattle.cheri_model.specs.declared.operation.Op.{Op}
use Rattle.schedules.specs.declared.ranges.SweepRange.{SweepRange}
use Rattle.schedules.specs.Schedules.{operation_of_label, AreLabelsOf}
use Rattle.states.specs.Kept.{KeptParts}
use Rattle.states.proofs.KeptLemmas.{labels_more}
use Rattle.states.proofs.kept.Kept.operations.Goals as goal

pub loop-label-preserved : goal.loop-label-preserved
loop-label-preserved c =
    let kept : KeptParts = c.args.self.now in
    let i = c.loop-label.label-index in
    let l = slice_index_or c.args.labels.now i 0 in
    let more = take_more c.args.labels.now i 0 c.loop-label-test.true in
    let is : operation_of_label kept.image kept.sweeps l ≡ Some c.operation_of_label.result =
    ap (λ (k : KeptParts). operation_of_label k.image k.sweeps l) (sym c.self.view_is)
    ∙ (ap (λ (ss : List SweepRange). operation_of_label c.self.inside.image ss l) (sym c.as_slice-sweeps.ensures.value)
    ∙ c.operation_of_label.ensures) in
    subst (λ (ls : List ℕ). AreLabelsOf kept.image kept.sweeps ls c.push.new.self.items) (sym more)
    (subst (λ (os : List Op). AreLabelsOf kept.image kept.sweeps (take i c.args.labels.now ++ l ∷ []) os)
    (sym c.in_ok-push.ensures.items)
    (labels_more kept.image kept.sweeps (take i c.args.labels.now) c.loop-label.order.items l c.operation_of_label.result
    c.loop-label.invariant is))

pub returns : goal.returns
returns c =
    subst (λ (ls : List ℕ). AreLabelsOf c.args.self.now.image c.args.self.now.sweeps ls c.loop-label.order.items)
    (take_all c.loop-label.label-index c.args.labels.now c.loop-label-test.false) c.loop-label.invariant
