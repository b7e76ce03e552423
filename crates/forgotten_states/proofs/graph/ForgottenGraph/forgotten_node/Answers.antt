use Rattle.std.proofs.Common.{ap, ◌∙◌}
use Rattle.cheri_model.specs.runs.Machine.{MachineState}
use Rattle.states.specs.Graphs.{rest_in, state_in}
use Rattle.forgotten_states.proofs.GraphLemmas.{forgetting_on}
use Rattle.forgotten_states.proofs.RowLemmas.{rest_kept, rest_twice}
use Rattle.forgotten_states.proofs.graph.ForgottenGraph.forgotten_node.Goals as goal

pub invariant_of-self : goal.invariant_of-self
invariant_of-self c =
    forgetting_on c.self.inside.live.now c.self.inside.graph c.node.new.self c.self.inside.known.items
    c.node.ensures.continues c.self.invariant

pub invariant_of-self-2 : goal.invariant_of-self-2
invariant_of-self-2 c =
    forgetting_on c.self.inside.live.now c.self.inside.graph c.node.new.self c.self.inside.known.items
    c.node.ensures.continues c.self.invariant

pub forget_harts-requires : goal.forget_harts-requires
forget_harts-requires c =
    let state : MachineState = record { harts = c.args.harts.now; memory = c.args.ram.now } in (
      rest_in c.self.inside.graph state,
      ap (state_in c.node.new.self) c.as_mut_slice.ensures.value ∙ c.in_ok-node.ensures.node,
      rest_kept c.self.inside.graph c.node.new.self c.node.ensures.continues (rest_in c.self.inside.graph state)
          ∙ rest_twice c.self.inside.graph state,
    )
