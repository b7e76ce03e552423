use Rattle.std.proofs.Common.{◌<◌, ℕ, List, [], ◌∷◌, ◌++◌, take, length, sym, subst, arith}
use Rattle.std.specs.Prelude.{slice_index_or}
use Rattle.std.proofs.lemmas.List.{take_more, take_all}
use Rattle.std.proofs.lemmas.Option.{slice_get-get_or}
use Rattle.cheri_model.specs.declared.operation.Op.{Op}
use Rattle.cheri_model.specs.declared.operation.Op.TheVariants as operation
use Rattle.schedules.specs.Schedules.{AreLabelsOf}
use Rattle.states.proofs.KeptLemmas.{labels_more}
use Rattle.states.proofs.SizeLemmas.{sizes_of}
use Rattle.forgotten_states.proofs.NodeLemmas.{step_label}
use Rattle.forgotten_states.proofs.nodes.steps_of.Goals as goal

-- the label in hand is a hart's number
pub overflow_cast-label : goal.overflow_cast-label
overflow_cast-label c =
    let few = (sizes_of c.args.image.now c.granules-granules.ensures.formed).harts_few in
    let below : slice_index_or c.args.labels.now c.loop-label.label-index 0 < length c.args.image.now.harts =
    c.requires c.loop-label.label-index (slice_index_or c.args.labels.now c.loop-label.label-index 0)
    (slice_get-get_or c.args.labels.now c.loop-label.label-index 0 c.loop-label-test.true) in
    omega arith

pub loop-label-preserved : goal.loop-label-preserved
loop-label-preserved c =
    let i = c.loop-label.label-index in
    let l = slice_index_or c.args.labels.now i 0 in
    let more = take_more c.args.labels.now i 0 c.loop-label-test.true in
    let below : l < length c.args.image.now.harts =
    c.requires i l (slice_get-get_or c.args.labels.now i 0 c.loop-label-test.true) in
    subst (λ (ls : List ℕ). AreLabelsOf c.args.image.now [] ls c.push.new.self.items) (sym more)
    (subst (λ (os : List Op). AreLabelsOf c.args.image.now [] (take i c.args.labels.now ++ l ∷ []) os)
    (sym c.in_ok-push.ensures.items)
    (labels_more c.args.image.now [] (take i c.args.labels.now) c.loop-label.ops.items l (operation.Step l)
    c.loop-label.invariant (step_label c.args.image.now l below)))

pub returns : goal.returns
returns c =
    subst (λ (ls : List ℕ). AreLabelsOf c.args.image.now [] ls c.loop-label.ops.items)
    (take_all c.loop-label.label-index c.args.labels.now c.loop-label-test.false) c.loop-label.invariant
