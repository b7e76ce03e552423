use Rattle.std.proofs.Common.{◌<◌, ap, sym, ◌∙◌, subst, arith, length}
use Rattle.std.specs.Prelude.{Some}
use Rattle.std.proofs.lemmas.Result.{IfOk-weaker}
use Rattle.cheri_model.specs.runs.Image.{ImageParts}
use Rattle.cheri_model.specs.runs.Machine.{MachineState}
use Rattle.state_store.proofs.NumberedLemmas.{some_of}
use Rattle.states.proofs.NodeLemmas.{is_some}
use Rattle.states.proofs.SizeLemmas.{sizes_of}
use Rattle.granule_states.specs.Graphs.{state_in}
use Rattle.granule_states.specs.Orders.{stepped_in}
use Rattle.granule_states.proofs.OrderLemmas.{rest_kept, turn_appended}
use Rattle.granule_states.proofs.TurnLemmas.{learns_on}
use Rattle.granule_states.proofs.graph.GranuleGraph.walk_turn.Goals as goal

pub overflow_cast-hart : goal.overflow_cast-hart
overflow_cast-hart c =
    let few = (sizes_of c.image.result.now c.granules-granules.ensures.formed).harts_few in
    let same = ap (λ (i : ImageParts). length i.harts) c.image.ensures in
    omega (arith, few, same, c.requires.hart)

pub walk_to_rest-requires-clause-meant : goal.walk_to_rest-requires-clause-meant
walk_to_rest-requires-clause-meant c =
    let s = some_of (state_in c.args.self.now c.args.row.now) c.requires.meant in
    is_some (state_in c.step_row.new.self c.step_row.new.row) _ (c.in_ok-step_row.ensures.state s.0 s.1)

pub walk_to_rest-requires-clause-hart : goal.walk_to_rest-requires-clause-hart
walk_to_rest-requires-clause-hart c =
    subst (λ (i : ImageParts). c.args.hart < length i.harts)
    (sym c.step_row.ensures.learns.graph.image) c.requires.hart

pub returns-clause-learns : goal.returns-clause-learns
returns-clause-learns c =
    learns_on c.args.self.now c.step_row.new.self c.walk_to_rest.new.self c.step_row.ensures.learns
    c.walk_to_rest.ensures.learns

pub returns-clause-rest : goal.returns-clause-rest
returns-clause-rest c =
    IfOk-weaker c.walk_to_rest.result _ _
    (λ done rest s is.
    rest (stepped_in c.args.self.now s c.args.hart) (c.in_ok-step_row.ensures.state s is)
    ∙ ap (λ (x : MachineState). Some x) (rest_kept c.args.self.now c.step_row.new.self
    c.step_row.ensures.learns c.args.hart (stepped_in c.args.self.now s c.args.hart)))
    c.walk_to_rest.ensures.rest

pub returns-clause-steps : goal.returns-clause-steps
returns-clause-steps c =
    IfOk-weaker c.walk_to_rest.result _ _
    (λ done steps s is.
    turn_appended c.args.self.now c.step_row.new.self c.step_row.ensures.learns c.args.order.now.items
    c.push.new.self.items c.walk_to_rest.new.order.items c.args.hart
    (stepped_in c.args.self.now s c.args.hart) c.in_ok-push.ensures.items
    (steps (stepped_in c.args.self.now s c.args.hart) (c.in_ok-step_row.ensures.state s is)))
    c.walk_to_rest.ensures.steps
