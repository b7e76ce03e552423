use Rattle.std.proofs.Common.{◌++◌, List, ap, ◌∙◌, arith, length}
use Rattle.std.proofs.lemmas.Result.{IfOk-weaker}
use Rattle.cheri_model.specs.declared.operation.Op.{Op}
use Rattle.cheri_model.specs.runs.Image.{ImageParts}
use Rattle.states.proofs.SizeLemmas.{sizes_of}
use Rattle.granule_states.specs.Orders.{steps_of}
use Rattle.granule_states.proofs.OrderLemmas.{steps_replicate}
use Rattle.granule_states.proofs.graph.GranuleGraph.walk_to_rest.Goals as goal

pub overflow_cast-hart : goal.overflow_cast-hart
overflow_cast-hart c =
    let few = (sizes_of c.image.result.now c.granules-granules.ensures.formed).harts_few in
    let same = ap (λ (i : ImageParts). length i.harts) c.image.ensures in
    omega (arith, few, same, c.requires.hart)

pub returns-clause-rest : goal.returns-clause-rest
returns-clause-rest c =
    IfOk-weaker c.push_steps.result _ _ (λ done pushed s is. c.in_ok-count.ensures.rest s is)
    c.push_steps.ensures

pub returns-clause-steps : goal.returns-clause-steps
returns-clause-steps c =
    IfOk-weaker c.push_steps.result _ _
    (λ done pushed s is.
    pushed ∙ ap (λ (os : List Op). c.args.order.now.items ++ os)
    (steps_replicate c.in_ok-count.count c.args.hart ∙ ap steps_of (c.in_ok-count.ensures.way s is)))
    c.push_steps.ensures
