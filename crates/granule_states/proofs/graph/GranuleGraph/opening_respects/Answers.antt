use Rattle.std.proofs.Common.{◌≡◌, ℕ, ap, ◌∙◌, subst, arith, length, refl}
use Rattle.std.specs.Prelude.{true}
use Rattle.cheri_model.specs.runs.Image.{ImageParts}
use Rattle.explore_turns.specs.declared.quiet.TheConstants.{MAX_QUIET_STEPS}
use Rattle.own_granules.specs.Rests.{ways_pass}
use Rattle.state_store.proofs.NumberedLemmas.{some_of}
use Rattle.states.proofs.NodeLemmas.{is_some}
use Rattle.granule_states.specs.Graphs.{quiet_in, state_in, step_in}
use Rattle.granule_states.specs.Owners.{passes_in}
use Rattle.granule_states.proofs.ScanLemmas.{first_more, rest_begun, way_before, ways_begun, ways_more}
use Rattle.granule_states.proofs.TurnLemmas.{learns_on, learns_self, state_learned}
use Rattle.granule_states.proofs.graph.GranuleGraph.opening_respects.Goals as goal

pub loop-hart-init : goal.loop-hart-init
loop-hart-init c = record {
  learns = learns_self c.args.self.now;
  same_room = refl;
  rests = λ s is. rest_begun c.args.self.now c.args.row.now s is;
  passed = λ s is. ways_begun c.args.self.now c.args.owners.now s;
}

pub way_from_respects-requires-clause-meant : goal.way_from_respects-requires-clause-meant
way_from_respects-requires-clause-meant c =
    let s = some_of (state_in c.args.self.now c.args.row.now) c.requires.meant in
    is_some (state_in c.loop-hart.self c.loop-hart.row) _ (c.loop-hart.invariant.rests s.0 s.1)

pub way_from_respects-requires-clause-hart : goal.way_from_respects-requires-clause-hart
way_from_respects-requires-clause-hart c =
    let same = ap (λ (i : ImageParts). length i.harts) c.loop-hart.invariant.learns.graph.image in
    omega (arith, same, c.loop-hart-test.true, c.label_count-hart-end.ensures)

pub way_from_respects-requires-clause-few : goal.way_from_respects-requires-clause-few
way_from_respects-requires-clause-few c = omega (arith, c.loop-hart.invariant.same_room, c.requires.few)

pub settle-requires-clause-meant : goal.settle-requires-clause-meant
settle-requires-clause-meant c =
    let s = some_of (state_in c.args.self.now c.args.row.now) c.requires.meant in
    is_some (state_in c.way_from_respects.new.self c.loop-hart.row) _
    (state_learned c.loop-hart.self c.way_from_respects.new.self c.way_from_respects.ensures.learns c.loop-hart.row _
    (c.loop-hart.invariant.rests s.0 s.1))

pub settle-requires-clause-hart : goal.settle-requires-clause-hart
settle-requires-clause-hart c =
    let same = ap (λ (i : ImageParts). length i.harts) c.loop-hart.invariant.learns.graph.image in
    let also = ap (λ (i : ImageParts). length i.harts) c.way_from_respects.ensures.learns.graph.image in
    omega (arith, same, also, c.loop-hart-test.true, c.label_count-hart-end.ensures)

pub loop-hart-preserved : goal.loop-hart-preserved
loop-hart-preserved c =
    let learns = c.loop-hart.invariant.learns in
    let on = learns_on c.args.self.now c.loop-hart.self c.way_from_respects.new.self learns c.way_from_respects.ensures.learns in
    record {
      learns = learns_on c.args.self.now c.way_from_respects.new.self c.settle.new.self on c.settle.ensures.learns;
      same_room = c.in_ok-settle.ensures.same_room ∙ c.loop-hart.invariant.same_room;
      rests = λ s is.
          first_more c.args.self.now c.way_from_respects.new.self c.settle.new.self on c.settle.new.row s c.loop-hart.hart
          (c.in_ok-settle.ensures.rest _ (state_learned c.loop-hart.self c.way_from_respects.new.self
          c.way_from_respects.ensures.learns c.loop-hart.row _ (c.loop-hart.invariant.rests s is)));
      passed = λ s is.
          ways_more c.args.self.now c.args.owners.now s c.loop-hart.hart (c.loop-hart.invariant.passed s is)
          (way_before c.args.self.now c.loop-hart.self learns c.args.owners.now _ c.loop-hart.hart
          (c.in_ok-way_from_respects.ensures.way _ (c.loop-hart.invariant.rests s is) c.if-not-branch.false));
    }

pub returns-clause-ways : goal.returns-clause-ways
returns-clause-ways c s is holds =
    let within = c.loop-hart.auto.hart-end in
    let all : c.loop-hart.hart ≡ length c.args.self.now.graph.image.harts =
    omega (arith, c.loop-hart-test.false, c.label_count-hart-end.ensures, within) in
    subst (λ (n : ℕ). ways_pass (step_in c.args.self.now) (quiet_in c.args.self.now) (passes_in c.args.self.now c.args.owners.now)
    MAX_QUIET_STEPS n s ≡ true) all (c.loop-hart.invariant.passed s is)
