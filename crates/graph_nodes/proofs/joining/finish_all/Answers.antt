use Rattle.std.proofs.Common.{◌≡◌, [], length, sym, ◌∙◌, subst}
use Rattle.graph_nodes.specs.Tasks.{IsTakenIn}
use Rattle.graph_nodes.specs.Sending.{ArePairs}
use Rattle.graph_nodes.proofs.PairLemmas.{no_pairs}
use Rattle.graph_nodes.proofs.BatchLemmas.{none_done, one_done, all_done, not_both}
use Rattle.graph_nodes.proofs.joining.finish_all.Goals as goal

pub loop-task-init : goal.loop-task-init
loop-task-init g c = λ tasks are.
    none_done g.C.Crew.is_of tasks c.args.begun.items c.new-tasks.result.items are
    (subst (ArePairs IsTakenIn []) (sym c.new-tasks.ensures.items) (no_pairs IsTakenIn))

pub loop-task-preserved-then-whole : goal.loop-task-preserved-then-whole
loop-task-preserved-then-whole g c = λ tasks are.
    one_done g.C.Crew.is_of tasks c.loop-task.begun.items c.pop.new.self.items c.in-Some.task c.loop-task.tasks.items
    c.keep-kept.new.tasks.items c.loop-task.whole c.keep-kept.result c.finish.result c.in-Some.ensures.items
    (c.loop-task.invariant tasks are) c.finish.ensures
    (λ yes. (c.if-whole.true, (c.keep-kept.ensures yes).0, (c.keep-kept.ensures yes).1))

pub loop-task-preserved : goal.loop-task-preserved
loop-task-preserved g c = λ tasks are.
    one_done g.C.Crew.is_of tasks c.loop-task.begun.items c.pop.new.self.items c.in-Some.task c.loop-task.tasks.items
    c.keep-kept.new.tasks.items c.loop-task.whole c.loop-task.whole c.finish.result c.in-Some.ensures.items
    (c.loop-task.invariant tasks are) c.finish.ensures
    (λ yes. not_both c.loop-task.whole yes c.if-whole.false)

pub returns : goal.returns
returns g c = λ tasks are.
    let none : length c.loop-task.begun.items ≡ 0 = sym c.loop-task.begun.ok.0 ∙ c.in_default.ensures.cases.0 in
    all_done g.C.Crew.is_of tasks c.loop-task.begun.items c.loop-task.tasks.items c.loop-task.whole none
    c.if-not-whole.false (c.loop-task.invariant tasks are)
