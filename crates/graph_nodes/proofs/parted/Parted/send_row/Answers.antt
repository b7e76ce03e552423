use Rattle.std.proofs.Common.{ap, sym, ◌∙◌, subst}
use Rattle.std.proofs.lemmas.List.{length-set}
use Rattle.graph_nodes.specs.Homes.{home_of}
use Rattle.graph_nodes.specs.Parts.{Grows}
use Rattle.graph_nodes.proofs.GetLemmas.{get_set_same}
use Rattle.graph_nodes.proofs.TaskLemmas.{grows_none}
use Rattle.graph_nodes.proofs.PartedLemmas.{ok_then, task_here}
use Rattle.graph_nodes.proofs.LaterLemmas.{later_agree, later_nodes, set_later}
use Rattle.graph_nodes.proofs.NumberLemmas.{sent_others}
use Rattle.graph_nodes.proofs.parted.Parted.send_row.Goals as goal

pub returns-clause-whole : goal.returns-clause-whole
returns-clause-whole c =
    let was = c.args.self.now in
    let task = c.index_mut-task.result.now in
    let here = task_here was.tasks.items c.args.part task c.requires.within c.index_mut-task.ensures.value in
    let none = grows_none task.part (c.requires.whole.ready c.args.part task here).distinct in
    later_agree was.width was.tasks.items _ was.order.items
    (set_later was.width was.tasks.items was.order.items c.args.part task c.send.new.self c.requires.whole here (record {
      grows = subst (Grows task.part) (sym c.send.ensures.same_part) none;
      ready = c.send.ensures.ready;
    })) c.requires.whole

pub returns-clause-same_nodes : goal.returns-clause-same_nodes
returns-clause-same_nodes c =
    let was = c.args.self.now in
    let task = c.index_mut-task.result.now in
    let here = task_here was.tasks.items c.args.part task c.requires.within c.index_mut-task.ensures.value in
    let none = grows_none task.part (c.requires.whole.ready c.args.part task here).distinct in
    later_nodes was.width was.tasks.items _ was.order.items
    (set_later was.width was.tasks.items was.order.items c.args.part task c.send.new.self c.requires.whole here (record {
      grows = subst (Grows task.part) (sym c.send.ensures.same_part) none;
      ready = c.send.ensures.ready;
    })) c.requires.whole

pub returns-clause-others : goal.returns-clause-others
returns-clause-others c =
    let was = c.args.self.now in
    let task = c.index_mut-task.result.now in
    let here = task_here was.tasks.items c.args.part task c.requires.within c.index_mut-task.ensures.value in
    sent_others was.tasks.items c.args.part task c.send.new.self here c.send.ensures.others

pub returns-clause-sent : goal.returns-clause-sent
returns-clause-sent c =
    let tasks = c.args.self.now.tasks.items in
    ok_then c.send.result _ _ (λ k sent. record {
      task = c.send.new.self;
      here = get_set_same tasks c.args.part c.send.new.self c.requires.within;
      is = sent;
      home = ap (λ n. home_of n c.args.row.now) (length-set tasks c.args.part c.send.new.self) ∙ sym c.requires.home;
    }) c.send.ensures.sent
