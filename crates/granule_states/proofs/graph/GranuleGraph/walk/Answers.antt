use Rattle.std.proofs.Common.{◌<◌, ◌++◌, List, ap, sym, ◌∙◌, subst, length}
use Rattle.cheri_model.specs.declared.operation.Op.{Op}
use Rattle.cheri_model.specs.runs.Image.{ImageParts}
use Rattle.state_store.proofs.NumberedLemmas.{some_of}
use Rattle.states.proofs.NodeLemmas.{is_some}
use Rattle.granule_states.specs.Graphs.{state_in}
use Rattle.granule_states.specs.Orders.{rests_in, steps_of, turns_in, ways_in}
use Rattle.granule_states.proofs.OrderLemmas.{begun_steps, turns_learned, walks_kept}
use Rattle.granule_states.proofs.TurnLemmas.{learns_on}
use Rattle.granule_states.proofs.graph.GranuleGraph.walk.Goals as goal

pub walk_turns-requires-clause-meant : goal.walk_turns-requires-clause-meant
walk_turns-requires-clause-meant c =
    let s = some_of (state_in c.args.self.now c.args.row.now) c.requires.meant in
    is_some (state_in c.walk_to_rests.new.self c.walk_to_rests.new.row) _
    (c.in_ok-walk_to_rests.ensures.rest s.0 s.1)

pub walk_turns-requires-clause-harts : goal.walk_turns-requires-clause-harts
walk_turns-requires-clause-harts c i hart at =
    subst (λ (j : ImageParts). hart < length j.harts)
    (sym c.walk_to_rests.ensures.learns.graph.image) (c.requires.first i hart at)

pub walk_turns-requires-2-clause-harts : goal.walk_turns-requires-2-clause-harts
walk_turns-requires-2-clause-harts c i hart at =
    subst (λ (j : ImageParts). hart < length j.harts)
    (sym (learns_on c.args.self.now c.walk_to_rests.new.self c.walk_turns.new.self
    c.walk_to_rests.ensures.learns c.walk_turns.ensures.learns).graph.image) (c.requires.later i hart at)

pub walk_turns-requires-2-clause-meant : goal.walk_turns-requires-2-clause-meant
walk_turns-requires-2-clause-meant c = c.in_ok-walk_turns.ensures.meant

pub returns-clause-first : goal.returns-clause-first
returns-clause-first c s is =
    begun_steps c.args.self.now c.walk_to_rests.new.self c.walk_to_rests.ensures.learns
    c.walk_to_rests.new.order.items c.walk_turns.new.order.items s c.args.first.now
    (c.in_ok-walk_to_rests.ensures.steps s is
    ∙ ap (λ (os : List Op). os ++ steps_of (ways_in c.args.self.now (length c.args.self.now.graph.image.harts) s))
    c.new-order.ensures.items)
    (c.in_ok-walk_turns.ensures.steps (rests_in c.args.self.now s)
    (c.in_ok-walk_to_rests.ensures.rest s is))

pub returns-clause-later : goal.returns-clause-later
returns-clause-later c s t is walk =
    let g = c.args.self.now in
    let both = learns_on g c.walk_to_rests.new.self c.walk_turns.new.self
    c.walk_to_rests.ensures.learns c.walk_turns.ensures.learns in
    let there = c.in_ok-walk_turns.ensures.leads (rests_in g s) t
    (c.in_ok-walk_to_rests.ensures.rest s is)
    (walks_kept g c.walk_to_rests.new.self c.walk_to_rests.ensures.learns (rests_in g s) t
    c.args.first.now walk) in
    turns_learned g c.walk_turns.new.self both c.walk_turns-2.new.order.items t c.args.later.now
    (c.in_ok-walk_turns-2.ensures.steps t there
    ∙ ap (λ (os : List Op). os ++ steps_of (turns_in c.walk_turns.new.self t c.args.later.now)) c.new-more.ensures.items)
