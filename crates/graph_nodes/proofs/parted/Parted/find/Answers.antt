use Rattle.std.proofs.Common.{◌∙◌}
use Rattle.graph_nodes.proofs.PartedLemmas.{home_task, not_in_part, number_in, no_number_in, some_then}
use Rattle.graph_nodes.proofs.parted.Parted.find.Goals as goal

pub returns-in_err-place-clause-absent : goal.returns-in_err-place-clause-absent
returns-in_err-place-clause-absent c = λ _.
    let nodes = c.args.self.now in
    let task = c.index-task.result.now in
    let here = home_task nodes.tasks.items c.args.row.now c.len.result c.home_of-home.result task
    (c.len.ensures ∙ nodes.tasks.ok.0) c.home_of-home.ensures.home c.home_of-home.ensures.within c.index-task.ensures in
    not_in_part nodes.width nodes.tasks.items nodes.order.items c.requires c.args.row.now task here
    (c.find.ensures.absent c.in_err-place.was)

pub returns-clause-found : goal.returns-clause-found
returns-clause-found c =
    let nodes = c.args.self.now in
    let task = c.index-task.result.now in
    let here = home_task nodes.tasks.items c.args.row.now c.len.result c.home_of-home.result task
    (c.len.ensures ∙ nodes.tasks.ok.0) c.home_of-home.ensures.home c.home_of-home.ensures.within c.index-task.ensures in
    some_then c.number_of.result _ _ (λ number is.
    number_in nodes.width nodes.tasks.items nodes.order.items c.requires c.args.row.now task here c.in_ok-place.place
    number c.in_ok-place.ensures.found is) c.number_of.ensures.some

pub returns-clause-absent : goal.returns-clause-absent
returns-clause-absent c = λ none.
    let nodes = c.args.self.now in
    let task = c.index-task.result.now in
    let here = home_task nodes.tasks.items c.args.row.now c.len.result c.home_of-home.result task
    (c.len.ensures ∙ nodes.tasks.ok.0) c.home_of-home.ensures.home c.home_of-home.ensures.within c.index-task.ensures in
    no_number_in nodes.width nodes.tasks.items nodes.order.items c.requires c.args.row.now task here
    c.in_ok-place.place c.in_ok-place.ensures.found (c.number_of.ensures.none none)
