use Rattle.std.proofs.Common.{◌≡◌, [], ◌∷◌, length, ap, sym, ◌∙◌}
use Rattle.std.specs.Prelude.{slice_get}
use Rattle.graph_nodes.proofs.GetLemmas.{get_left, get_last}
use Rattle.graph_nodes.proofs.BatchLemmas.{none_begun, one_begun, all_begun}
use Rattle.graph_nodes.proofs.joining.begin_all.Goals as goal

pub loop-task-init : goal.loop-task-init
loop-task-init g c = record {
  ready = c.requires;
  begun = none_begun g.C.Crew.is_of c.in_ok-begun.begun.items c.args.tasks.items c.in_ok-begun.ensures.items;
}

pub start-requires : goal.start-requires
start-requires g c =
    c.loop-task.invariant.ready (length c.pop.new.self.items) c.in-Some.task
    (ap (λ ts. slice_get ts (length c.pop.new.self.items)) c.in-Some.ensures.items
    ∙ get_last c.pop.new.self.items c.in-Some.task)

pub loop-task-preserved : goal.loop-task-preserved
loop-task-preserved g c = record {
  ready = λ p task at. c.loop-task.invariant.ready p task
      (ap (λ ts. slice_get ts p) c.in-Some.ensures.items
      ∙ get_left c.pop.new.self.items (c.in-Some.task ∷ []) p task at);
  begun = one_begun g.C.Crew.is_of c.loop-task.tasks.items c.pop.new.self.items c.args.tasks.items c.in-Some.task
      c.loop-task.begun.items c.push.new.self.items c.start.result c.in-Some.ensures.items c.loop-task.invariant.begun
      c.start.ensures c.in_ok-push.ensures.items;
}

pub returns : goal.returns
returns g c =
    let none : length c.loop-task.tasks.items ≡ 0 = sym c.loop-task.tasks.ok.0 ∙ c.in_default.ensures.cases.0 in
    all_begun g.C.Crew.is_of c.loop-task.tasks.items c.args.tasks.items c.loop-task.begun.items none c.loop-task.invariant.begun
