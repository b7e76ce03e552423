use Rattle.std.proofs.Common.{◌≡◌, [], ◌∷◌, ap, sym, ◌∙◌, subst, length}
use Rattle.std.specs.Prelude.{true}
use Rattle.std.proofs.lemmas.List.{length-take-le}
use Rattle.cheri_model.specs.runs.Image.{ImageParts}
use Rattle.cheri_model.specs.runs.ImageRules.{is_image}
use Rattle.state_store.proofs.NumberedLemmas.{some_of}
use Rattle.states.proofs.NodeLemmas.{node_of}
use Rattle.granule_states.specs.Graphs.{state_in}
use Rattle.granule_states.proofs.OrderLemmas.{step_stays, step_went}
use Rattle.granule_states.proofs.RowLemmas.{row_short}
use Rattle.granule_states.proofs.graph.GranuleGraph.step_row.Goals as goal

pub slice_bounds-to-end : goal.slice_bounds-to-end
slice_bounds-to-end c =
    row_short c.args.self.now.graph c.args.row.now c.requires.meant
    (subst (λ (i : ImageParts). is_image i ≡ true) c.image.ensures c.granules-granules.ensures.formed)

pub slice_bounds-to-end-2 : goal.slice_bounds-to-end-2
slice_bounds-to-end-2 c =
    let few = row_short c.args.self.now.graph c.args.row.now c.requires.meant
    (subst (λ (i : ImageParts). is_image i ≡ true) c.image.ensures c.granules-granules.ensures.formed) in
    sym (length-take-le (length c.args.row.now) (0 ∷ 0 ∷ 0 ∷ 0 ∷ 0 ∷ 0 ∷ 0 ∷ 0 ∷ 0 ∷ []) few)

pub take_step-requires-clause-room : goal.take_step-requires-clause-room
take_step-requires-clause-room c =
    let few = row_short c.args.self.now.graph c.args.row.now c.requires.meant
    (subst (λ (i : ImageParts). is_image i ≡ true) c.image.ensures c.granules-granules.ensures.formed) in
    let s = some_of (state_in c.args.self.now c.args.row.now) c.requires.meant in
    length-take-le (length c.args.row.now) (0 ∷ 0 ∷ 0 ∷ 0 ∷ 0 ∷ 0 ∷ 0 ∷ 0 ∷ 0 ∷ []) few
    ∙ (node_of c.args.self.now.graph c.args.row.now s.0 s.1).width

pub copy_from_slice-requires : goal.copy_from_slice-requires
copy_from_slice-requires c =
    let few = row_short c.args.self.now.graph c.args.row.now c.requires.meant
    (subst (λ (i : ImageParts). is_image i ≡ true) c.image.ensures c.granules-granules.ensures.formed) in
    sym (c.take_step.auto.to ∙ length-take-le (length c.args.row.now) (0 ∷ 0 ∷ 0 ∷ 0 ∷ 0 ∷ 0 ∷ 0 ∷ 0 ∷ 0 ∷ []) few)

pub returns-then-not-branch-clause-state : goal.returns-then-not-branch-clause-state
returns-then-not-branch-clause-state c s is =
    step_stays c.args.self.now c.take_step.new.self c.take_step.ensures.learns
    (state_in c.take_step.new.self) c.args.row.now c.take_step.new.to c.in_ok-take_step.field-0 s
    c.args.hart is c.if-not-branch.true (c.in_ok-take_step.ensures.value s is)

pub returns-clause-state : goal.returns-clause-state
returns-clause-state c s is =
    ap (state_in c.take_step.new.self) c.copy_from_slice.ensures.after
    ∙ step_went c.args.self.now (state_in c.take_step.new.self) c.take_step.new.to
    c.in_ok-take_step.field-0 s c.args.hart c.if-not-branch.false (c.in_ok-take_step.ensures.value s is)
