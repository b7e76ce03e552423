use Rattle.std.proofs.Common.{◌∙◌, ap}
use Rattle.origins.specs.Flows.{flows_at}
use Rattle.facts.proofs.finishing.instruction_flows.Goals as goal

pub returns-clause-value : goal.returns-clause-value
returns-clause-value c placed =
    c.flows.ensures.value ∙ ap (λ address. flows_at c.args.seen.now.fetched.instr address) (c.address_in.ensures.value placed)
