use Rattle.std.proofs.Common.{◌≡◌, ℕ, ap, ◌∙◌, arith, length, refl}
use Rattle.std.specs.Prelude.{Some}
use Rattle.cheri_model.specs.runs.Image.{ImageParts}
use Rattle.explore_turns.specs.declared.quiet.TheConstants.{MAX_QUIET_STEPS}
use Rattle.own_granules.specs.Rests.{rest_first}
use Rattle.state_store.proofs.NumberedLemmas.{some_of}
use Rattle.states.proofs.NodeLemmas.{is_some}
use Rattle.granule_states.specs.Graphs.{quiet_in, state_in, step_in}
use Rattle.granule_states.proofs.ScanLemmas.{first_more, rest_begun}
use Rattle.granule_states.proofs.TurnLemmas.{learns_on, learns_self}
use Rattle.granule_states.proofs.graph.GranuleGraph.settle_all.Goals as goal

pub loop-hart-init : goal.loop-hart-init
loop-hart-init c = record {
  learns = learns_self c.args.self.now;
  same_room = refl;
  rests = λ s is. rest_begun c.args.self.now c.args.row.now s is;
}

pub settle-requires-clause-meant : goal.settle-requires-clause-meant
settle-requires-clause-meant c =
    let s = some_of (state_in c.args.self.now c.args.row.now) c.requires.meant in
    is_some (state_in c.loop-hart.self c.loop-hart.row) _ (c.loop-hart.invariant.rests s.0 s.1)

pub settle-requires-clause-hart : goal.settle-requires-clause-hart
settle-requires-clause-hart c =
    let same = ap (λ (i : ImageParts). length i.harts) c.loop-hart.invariant.learns.graph.image in
    omega (arith, same, c.loop-hart-test.true, c.label_count-hart-end.ensures)

pub loop-hart-preserved : goal.loop-hart-preserved
loop-hart-preserved c =
    let learns = c.loop-hart.invariant.learns in
    record {
      learns = learns_on c.args.self.now c.loop-hart.self c.settle.new.self learns c.settle.ensures.learns;
      same_room = c.in_ok-settle.ensures.same_room ∙ c.loop-hart.invariant.same_room;
      rests = λ s is.
          first_more c.args.self.now c.loop-hart.self c.settle.new.self learns c.settle.new.row s c.loop-hart.hart
          (c.in_ok-settle.ensures.rest _ (c.loop-hart.invariant.rests s is));
    }

pub returns-clause-rest : goal.returns-clause-rest
returns-clause-rest c s is =
    let within = c.loop-hart.auto.hart-end in
    let all : c.loop-hart.hart ≡ length c.args.self.now.graph.image.harts =
    omega (arith, c.loop-hart-test.false, c.label_count-hart-end.ensures, within) in
    c.loop-hart.invariant.rests s is
    ∙ ap (λ (n : ℕ). Some (rest_first (step_in c.args.self.now) (quiet_in c.args.self.now) MAX_QUIET_STEPS n s)) all
