use Rattle.std.proofs.Common.{◌<◌, ap, sym, ◌∙◌, length, refl, subst}
use Rattle.std.specs.Prelude.{Some, slice_index_or}
use Rattle.std.proofs.lemmas.Option.{slice_get-get_or}
use Rattle.cheri_model.specs.runs.Image.{ImageParts}
use Rattle.cheri_model.specs.runs.Machine.{MachineState}
use Rattle.explore_turns.specs.declared.quiet.TheConstants.{MAX_QUIET_STEPS}
use Rattle.own_granules.specs.Rests.{rest_one}
use Rattle.state_store.proofs.NumberedLemmas.{some_of}
use Rattle.states.proofs.NodeLemmas.{is_some}
use Rattle.granule_states.specs.Graphs.{quiet_in, state_in, step_in}
use Rattle.granule_states.specs.Orders.{stepped_in}
use Rattle.granule_states.proofs.OrderLemmas.{turn_rest_kept, turn_told, walked_all, walked_more, walked_none}
use Rattle.granule_states.proofs.TurnLemmas.{learns_on, learns_self}
use Rattle.granule_states.proofs.graph.GranuleGraph.walk_turns.Goals as goal

pub loop-hart-init : goal.loop-hart-init
loop-hart-init c = record {
  learns = learns_self c.args.self.now;
  walked = λ s is. (s, is, walked_none c.args.self.now s c.args.harts.now c.args.order.now.items);
}

pub walk_turn-requires-clause-meant : goal.walk_turn-requires-clause-meant
walk_turn-requires-clause-meant c =
    let s = some_of (state_in c.args.self.now c.args.row.now) c.requires.meant in
    let t = c.loop-hart.invariant.walked s.0 s.1 in
    is_some (state_in c.loop-hart.self c.loop-hart.row) t.0 t.1

pub walk_turn-requires-clause-hart : goal.walk_turn-requires-clause-hart
walk_turn-requires-clause-hart c =
    let i = c.loop-hart.hart-index in
    let hart = slice_index_or c.args.harts.now i 0 in
    let low = c.requires.harts i hart (slice_get-get_or c.args.harts.now i 0 c.loop-hart-test.true) in
    subst (λ (j : ImageParts). hart < length j.harts) (sym c.loop-hart.invariant.learns.graph.image) low

pub loop-hart-preserved : goal.loop-hart-preserved
loop-hart-preserved c =
    let g = c.args.self.now in
    let learns = c.loop-hart.invariant.learns in
    let i = c.loop-hart.hart-index in
    let hart = slice_index_or c.args.harts.now i 0 in
    let low = c.requires.harts i hart (slice_get-get_or c.args.harts.now i 0 c.loop-hart-test.true) in
    let told = c.in_ok-walk_turn.ensures in
    record {
      learns = learns_on g c.loop-hart.self c.walk_turn.new.self learns c.walk_turn.ensures.learns;
      walked = λ s is.
          let t = c.loop-hart.invariant.walked s is in (
            rest_one (step_in g) (quiet_in g) MAX_QUIET_STEPS hart (stepped_in g t.0 hart),
            told.rest t.0 t.1 ∙ ap (λ (x : MachineState). Some x) (turn_rest_kept g c.loop-hart.self learns hart t.0),
            walked_more g s c.args.harts.now i c.args.order.now.items c.loop-hart.order.items
                c.walk_turn.new.order.items t.0 hart t.2 c.loop-hart-test.true refl low
                (turn_told g c.loop-hart.self learns c.loop-hart.order.items c.walk_turn.new.order.items hart t.0
                (told.steps t.0 t.1)),
          );
    }

pub returns-clause-meant : goal.returns-clause-meant
returns-clause-meant c =
    let s = some_of (state_in c.args.self.now c.args.row.now) c.requires.meant in
    let t = c.loop-hart.invariant.walked s.0 s.1 in
    is_some (state_in c.loop-hart.self c.loop-hart.row) t.0 t.1

pub returns-clause-leads : goal.returns-clause-leads
returns-clause-leads c s t is walk =
    let here = c.loop-hart.invariant.walked s is in
    let all = walked_all c.args.self.now s c.args.harts.now c.loop-hart.hart-index c.args.order.now.items
    c.loop-hart.order.items here.0 here.2 c.loop-hart-test.false in
    here.1 ∙ ap (λ (x : MachineState). Some x) (all.1 t walk)

pub returns-clause-steps : goal.returns-clause-steps
returns-clause-steps c s is =
    let here = c.loop-hart.invariant.walked s is in
    (walked_all c.args.self.now s c.args.harts.now c.loop-hart.hart-index c.args.order.now.items
    c.loop-hart.order.items here.0 here.2 c.loop-hart-test.false).0
