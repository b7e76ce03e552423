use Rattle.std.proofs.Common.{◌≡◌, ◌<◌, ℕ, [], ◌∷◌, ap, sym, ◌∙◌, subst, arith, length}
use Rattle.std.specs.Prelude.{Some, true, false, replicate}
use Rattle.std.proofs.lemmas.List.{length-take-le}
use Rattle.cheri_model.specs.runs.ImageRules.{is_image}
use Rattle.cheri_model.specs.runs.Machine.{MachineState}
use Rattle.explore_turns.specs.declared.quiet.TheConstants.{MAX_QUIET_STEPS}
use Rattle.states.proofs.NodeLemmas.{is_some}
use Rattle.state_store.proofs.NumberedLemmas.{some_of}
use Rattle.granule_states.specs.Graphs.{GranuleParts, quiet_in, state_in, step_in}
use Rattle.granule_states.proofs.AlongLemmas.{IsAlong, along_begun, along_ends, along_more, along_never}
use Rattle.granule_states.proofs.RowLemmas.{row_short}
use Rattle.granule_states.proofs.TurnLemmas.{learns_on, learns_self, quiet_now, still_there, state_learned, stepped_there}
use Rattle.granule_states.proofs.graph.GranuleGraph.settle.Goals as goal

pub slice_bounds-home-end : goal.slice_bounds-home-end
slice_bounds-home-end c =
    row_short c.args.self.now.graph c.args.row.now c.requires.meant
    (subst (λ (p : GranuleParts). is_image p.graph.image ≡ true) c.self.view_is c.self.invariant.formed)

pub slice_bounds-home-end-2 : goal.slice_bounds-home-end-2
slice_bounds-home-end-2 c =
    let few = row_short c.args.self.now.graph c.args.row.now c.requires.meant
    (subst (λ (p : GranuleParts). is_image p.graph.image ≡ true) c.self.view_is c.self.invariant.formed) in
    sym (length-take-le (length c.args.row.now) (0 ∷ 0 ∷ 0 ∷ 0 ∷ 0 ∷ 0 ∷ 0 ∷ 0 ∷ 0 ∷ []) few)

pub copy_from_slice-requires : goal.copy_from_slice-requires
copy_from_slice-requires c =
    let few = row_short c.args.self.now.graph c.args.row.now c.requires.meant
    (subst (λ (p : GranuleParts). is_image p.graph.image ≡ true) c.self.view_is c.self.invariant.formed) in
    length-take-le (length c.args.row.now) (0 ∷ 0 ∷ 0 ∷ 0 ∷ 0 ∷ 0 ∷ 0 ∷ 0 ∷ 0 ∷ []) few

pub loop-count-init : goal.loop-count-init
loop-count-init c = record {
  learns = learns_self c.args.self.now;
  along = λ s is. (s, is, along_begun (step_in c.args.self.now) (quiet_in c.args.self.now) c.args.hart MAX_QUIET_STEPS s);
}

pub quiet_step-requires-clause-meant : goal.quiet_step-requires-clause-meant
quiet_step-requires-clause-meant c =
    let s = some_of (state_in c.args.self.now c.args.row.now) c.requires.meant in
    let t = c.loop-count.invariant.along s.0 s.1 in
    is_some (state_in c.loop-count.self c.loop-count.row) t.0 t.1

pub returns-then-not-branch-clause-rest : goal.returns-then-not-branch-clause-rest
returns-then-not-branch-clause-rest c s is =
    let t = c.loop-count.invariant.along s is in
    let learns = c.loop-count.invariant.learns in
    let still = quiet_now c.args.self.now c.loop-count.self learns t.0 c.args.hart c.in_ok-quiet_step.field-0 false
    (c.in_ok-quiet_step.ensures.quiet t.0 t.1) c.if-not-branch.true in
    let ends = along_ends (step_in c.args.self.now) (quiet_in c.args.self.now) c.args.hart MAX_QUIET_STEPS s t.0 c.loop-count.count t.2 still in
    still_there c.loop-count.self c.quiet_step.new.self c.quiet_step.new.row t.0 c.args.hart c.in_ok-quiet_step.field-0
    (c.in_ok-quiet_step.ensures.row t.0 t.1) c.if-not-branch.true ∙ ap (λ (x : MachineState). Some x) (sym ends.0)

pub returns-then-not-branch-clause-way : goal.returns-then-not-branch-clause-way
returns-then-not-branch-clause-way c s is =
    let t = c.loop-count.invariant.along s is in
    let learns = c.loop-count.invariant.learns in
    let still = quiet_now c.args.self.now c.loop-count.self learns t.0 c.args.hart c.in_ok-quiet_step.field-0 false
    (c.in_ok-quiet_step.ensures.quiet t.0 t.1) c.if-not-branch.true in
    (along_ends (step_in c.args.self.now) (quiet_in c.args.self.now) c.args.hart MAX_QUIET_STEPS s t.0 c.loop-count.count t.2 still).1

pub loop-count-preserved : goal.loop-count-preserved
loop-count-preserved c =
    let learns = c.loop-count.invariant.learns in
    let below : c.loop-count.count < MAX_QUIET_STEPS = c.loop-count-test.true in
    record {
      learns = learns_on c.args.self.now c.loop-count.self c.quiet_step.new.self learns c.quiet_step.ensures.learns;
      along = λ s is.
          let t = c.loop-count.invariant.along s is in
          let moves = quiet_now c.args.self.now c.loop-count.self learns t.0 c.args.hart c.in_ok-quiet_step.field-0 true
          (c.in_ok-quiet_step.ensures.quiet t.0 t.1) c.if-not-branch.false in (
            step_in c.args.self.now t.0 c.args.hart,
            stepped_there c.args.self.now c.loop-count.self c.quiet_step.new.self learns c.quiet_step.new.row t.0 c.args.hart
                c.in_ok-quiet_step.field-0 (c.in_ok-quiet_step.ensures.row t.0 t.1) c.if-not-branch.false,
            along_more (step_in c.args.self.now) (quiet_in c.args.self.now) c.args.hart MAX_QUIET_STEPS s t.0 c.loop-count.count t.2
                below moves,
          );
    }

pub returns-then-not-branch-2-clause-rest : goal.returns-then-not-branch-2-clause-rest
returns-then-not-branch-2-clause-rest c s is =
    let t = c.loop-count.invariant.along s is in
    let learns = c.loop-count.invariant.learns in
    let still = quiet_now c.args.self.now c.loop-count.self learns t.0 c.args.hart c.in_ok-quiet_step-2.field-0 false
    (c.in_ok-quiet_step-2.ensures.quiet t.0 t.1) c.if-not-branch-2.true in
    let ends = along_ends (step_in c.args.self.now) (quiet_in c.args.self.now) c.args.hart MAX_QUIET_STEPS s t.0 c.loop-count.count t.2 still in
    still_there c.loop-count.self c.quiet_step-2.new.self c.quiet_step-2.new.row t.0 c.args.hart c.in_ok-quiet_step-2.field-0
    (c.in_ok-quiet_step-2.ensures.row t.0 t.1) c.if-not-branch-2.true ∙ ap (λ (x : MachineState). Some x) (sym ends.0)

pub returns-then-not-branch-2-clause-way : goal.returns-then-not-branch-2-clause-way
returns-then-not-branch-2-clause-way c s is =
    let t = c.loop-count.invariant.along s is in
    let learns = c.loop-count.invariant.learns in
    let past = c.loop-count-test.false in
    let most = t.2.within in
    let all : c.loop-count.count ≡ MAX_QUIET_STEPS = omega arith in
    let still = quiet_now c.args.self.now c.loop-count.self learns t.0 c.args.hart c.in_ok-quiet_step-2.field-0 false
    (c.in_ok-quiet_step-2.ensures.quiet t.0 t.1) c.if-not-branch-2.true in
    ap (λ (n : ℕ). replicate n c.args.hart) (sym all)
    ∙ (along_ends (step_in c.args.self.now) (quiet_in c.args.self.now) c.args.hart MAX_QUIET_STEPS s t.0 c.loop-count.count t.2 still).1

pub returns-clause-rest : goal.returns-clause-rest
returns-clause-rest c s is =
    let t = c.loop-count.invariant.along s is in
    let learns = c.loop-count.invariant.learns in
    let past = c.loop-count-test.false in
    let most = t.2.within in
    let all : c.loop-count.count ≡ MAX_QUIET_STEPS = omega arith in
    let moves = quiet_now c.args.self.now c.loop-count.self learns t.0 c.args.hart c.in_ok-quiet_step-2.field-0 true
    (c.in_ok-quiet_step-2.ensures.quiet t.0 t.1) c.if-not-branch-2.false in
    let never = along_never (step_in c.args.self.now) (quiet_in c.args.self.now) c.args.hart MAX_QUIET_STEPS s t.0
    (subst (λ (n : ℕ). IsAlong (step_in c.args.self.now) (quiet_in c.args.self.now) c.args.hart MAX_QUIET_STEPS s n t.0) all t.2) moves in
    let home : c.copy_from_slice-2.new.self ≡ c.args.row.now = c.copy_from_slice-2.ensures.after ∙ c.copy_from_slice.ensures.after in
    ap (state_in c.quiet_step-2.new.self) home
    ∙ (state_learned c.args.self.now c.quiet_step-2.new.self
    (learns_on c.args.self.now c.loop-count.self c.quiet_step-2.new.self learns c.quiet_step-2.ensures.learns) c.args.row.now s is
    ∙ ap (λ (x : MachineState). Some x) (sym never.0))

pub returns-clause-way : goal.returns-clause-way
returns-clause-way c s is =
    let t = c.loop-count.invariant.along s is in
    let learns = c.loop-count.invariant.learns in
    let past = c.loop-count-test.false in
    let most = t.2.within in
    let all : c.loop-count.count ≡ MAX_QUIET_STEPS = omega arith in
    let moves = quiet_now c.args.self.now c.loop-count.self learns t.0 c.args.hart c.in_ok-quiet_step-2.field-0 true
    (c.in_ok-quiet_step-2.ensures.quiet t.0 t.1) c.if-not-branch-2.false in
    (along_never (step_in c.args.self.now) (quiet_in c.args.self.now) c.args.hart MAX_QUIET_STEPS s t.0
    (subst (λ (n : ℕ). IsAlong (step_in c.args.self.now) (quiet_in c.args.self.now) c.args.hart MAX_QUIET_STEPS s n t.0) all t.2) moves).1
