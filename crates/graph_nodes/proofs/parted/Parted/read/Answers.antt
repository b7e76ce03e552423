use Rattle.std.proofs.Common.{◌<◌, ◌≤◌, length, arith, rules, sym, ◌∙◌, refl}
use Rattle.std.proofs.lemmas.Option.{slice_get_past, slice_get_read, slice_get_within}
use Rattle.graph_nodes.proofs.PartedLemmas.{no_node, node_there, task_here}
use Rattle.graph_nodes.proofs.parted.Parted.read.Goals as goal

pub returns-then-number-len-clause-none : goal.returns-then-number-len-clause-none
returns-then-number-len-clause-none c = λ _.
    let nodes = c.args.self.now in
    let past : length nodes.order.items ≤ c.args.number =
    omega (arith, c.if-number-len.true, c.len.ensures, nodes.order.ok.0) in
    no_node nodes.width nodes.tasks.items nodes.order.items c.args.number
    (slice_get_past nodes.order.items c.args.number past)

pub index-task-requires : goal.index-task-requires
index-task-requires c =
    let nodes = c.args.self.now in
    let below : c.args.number < length nodes.order.items =
    omega (arith, c.if-number-len.false, c.len.ensures, nodes.order.ok.0) in
    let place = c.index-place.result.now in
    let at = slice_get_read nodes.order.items (length nodes.order.items) c.args.number place refl below c.index-place.ensures in
    let node = c.requires.whole.node c.args.number place at in
    let within = slice_get_within nodes.tasks.items place.part node.has.task node.has.here in
    search (rules, within)

pub read-requires : goal.read-requires
read-requires c =
    let nodes = c.args.self.now in
    let below : c.args.number < length nodes.order.items =
    omega (arith, c.if-number-len.false, c.len.ensures, nodes.order.ok.0) in
    let place = c.index-place.result.now in
    let at = slice_get_read nodes.order.items (length nodes.order.items) c.args.number place refl below c.index-place.ensures in
    let node = c.requires.whole.node c.args.number place at in
    let within = slice_get_within nodes.tasks.items place.part node.has.task node.has.here in
    let here = task_here nodes.tasks.items place.part c.index-task.result.now within c.index-task.ensures in
    record { room = c.requires.room ∙ sym (c.requires.whole.wide place.part c.index-task.result.now here) }

pub returns-clause-row : goal.returns-clause-row
returns-clause-row c = λ yes.
    let nodes = c.args.self.now in
    let below : c.args.number < length nodes.order.items =
    omega (arith, c.if-number-len.false, c.len.ensures, nodes.order.ok.0) in
    let place = c.index-place.result.now in
    let at = slice_get_read nodes.order.items (length nodes.order.items) c.args.number place refl below c.index-place.ensures in
    node_there nodes.width nodes.tasks.items nodes.order.items c.requires.whole c.args.number place
    c.index-task.result.now at c.index-task.ensures ∙ c.read.ensures.row yes

pub returns-clause-none : goal.returns-clause-none
returns-clause-none c = λ no.
    let nodes = c.args.self.now in
    let below : c.args.number < length nodes.order.items =
    omega (arith, c.if-number-len.false, c.len.ensures, nodes.order.ok.0) in
    let place = c.index-place.result.now in
    let at = slice_get_read nodes.order.items (length nodes.order.items) c.args.number place refl below c.index-place.ensures in
    node_there nodes.width nodes.tasks.items nodes.order.items c.requires.whole c.args.number place
    c.index-task.result.now at c.index-task.ensures ∙ c.read.ensures.none no
