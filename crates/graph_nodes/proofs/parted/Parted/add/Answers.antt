use Rattle.std.proofs.Common.{ap, sym, ◌∙◌, refl}
use Rattle.std.proofs.lemmas.List.{length-set}
use Rattle.graph_nodes.specs.Homes.{home_of}
use Rattle.graph_nodes.proofs.GetLemmas.{get_set_same}
use Rattle.graph_nodes.proofs.PartedLemmas.{ok_then, task_here}
use Rattle.graph_nodes.proofs.LaterLemmas.{later_agree, later_nodes, set_later, part_later}
use Rattle.graph_nodes.proofs.parted.Parted.add.Goals as goal

pub add-requires : goal.add-requires
add-requires c =
    let tasks = c.args.self.now.tasks.items in
    let task = c.index_mut-task.result.now in
    let here = task_here tasks c.args.part task c.requires.within c.index_mut-task.ensures.value in
    c.requires.wide ∙ sym (c.requires.whole.wide c.args.part task here)

pub returns-clause-whole : goal.returns-clause-whole
returns-clause-whole c =
    let was = c.args.self.now in
    let task = c.index_mut-task.result.now in
    let here = task_here was.tasks.items c.args.part task c.requires.within c.index_mut-task.ensures.value in
    later_agree was.width was.tasks.items _ was.order.items
    (set_later was.width was.tasks.items was.order.items c.args.part task _ c.requires.whole here
    (part_later task _ (c.requires.whole.ready c.args.part task here) c.add.ensures.grows refl refl)) c.requires.whole

pub returns-clause-same_nodes : goal.returns-clause-same_nodes
returns-clause-same_nodes c =
    let was = c.args.self.now in
    let task = c.index_mut-task.result.now in
    let here = task_here was.tasks.items c.args.part task c.requires.within c.index_mut-task.ensures.value in
    later_nodes was.width was.tasks.items _ was.order.items
    (set_later was.width was.tasks.items was.order.items c.args.part task _ c.requires.whole here
    (part_later task _ (c.requires.whole.ready c.args.part task here) c.add.ensures.grows refl refl)) c.requires.whole

pub returns-clause-there : goal.returns-clause-there
returns-clause-there c =
    let tasks = c.args.self.now.tasks.items in
    ok_then c.add.result _ _ (λ place at. record {
      task = _;
      here = get_set_same tasks c.args.part _ c.requires.within;
      at = at;
      home = ap (λ n. home_of n c.args.row.now) (length-set tasks c.args.part _) ∙ sym c.requires.home;
    }) c.add.ensures.there
