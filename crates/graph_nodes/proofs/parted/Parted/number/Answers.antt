use Rattle.std.proofs.Common.{◌≡◌, ◌≢◌, ℕ, suc, ◌+◌, ◌<◌, length, arith, rules, ap, sym, ◌∙◌, refl, subst, inl}
use Rattle.std.specs.Prelude.{slice_get, Some}
use Rattle.std.proofs.lemmas.Option.{slice_get_within}
use Rattle.graph_nodes.specs.Parted.{nodes_of}
use Rattle.graph_nodes.specs.declared.tasks.Task.{Task}
use Rattle.graph_nodes.proofs.PartedLemmas.{on_err, task_here, same_task, number_is}
use Rattle.graph_nodes.proofs.NumberLemmas.{gets_number, number_agree, number_interned, number_found}
use Rattle.graph_nodes.proofs.parted.Parted.number.Goals as goal

pub returns-in-Some-clause-interned : goal.returns-in-Some-clause-interned
returns-in-Some-clause-interned c = λ row has.
    let was = c.args.self.now in
    let below = slice_get_within was.tasks.items c.args.place.part has.task has.here in
    let task = c.index-task.result.now in
    let here = task_here was.tasks.items c.args.place.part task below c.index-task.ensures in
    let same : task ≡ has.task = same_task was.tasks.items c.args.place.part c.args.place.part task has.task refl here has.here in (
      number_is was.width was.tasks.items was.order.items c.requires.whole c.args.place row has c.in-Some.number
          (ap (λ (t : Task). slice_get t.part.numbers.items c.args.place.row) (sym same) ∙ c.in-Some.ensures.some),
      inl refl,
    )

pub returns-in_err-push-clause-whole : goal.returns-in_err-push-clause-whole
returns-in_err-push-clause-whole c = rw c.in_err-push.ensures.items c.requires.whole

pub returns-in_err-push-clause-unchanged : goal.returns-in_err-push-clause-unchanged
returns-in_err-push-clause-unchanged c =
    on_err c.from_residual.result _ (ap (nodes_of c.args.self.now.width c.args.self.now.tasks.items) c.in_err-push.ensures.items)

pub returns-in_err-push-clause-same_found : goal.returns-in_err-push-clause-same_found
returns-in_err-push-clause-same_found c = λ sent row found. found

pub index_mut-task-requires : goal.index_mut-task-requires
index_mut-task-requires c =
    let has = c.requires.there.1 in
    let below = slice_get_within c.args.self.now.tasks.items c.args.place.part has.task has.here in
    search (rules, below)

pub index_mut-requires : goal.index_mut-requires
index_mut-requires c =
    let was = c.args.self.now in
    let has = c.requires.there.1 in
    let below = slice_get_within was.tasks.items c.args.place.part has.task has.here in
    let task = c.index_mut-task.result.now in
    let here = task_here was.tasks.items c.args.place.part task below c.index_mut-task.ensures.value in
    let same : has.task ≡ task = same_task was.tasks.items c.args.place.part c.args.place.part has.task task refl has.here here in
    let noted : c.args.place.row < length task.part.numbers.items =
    subst (λ (t : Task). c.args.place.row < length t.part.numbers.items) same has.at.noted in
    search (rules, noted)

pub returns-clause-whole : goal.returns-clause-whole
returns-clause-whole c =
    let was = c.args.self.now in
    let row = c.requires.there.0 in
    let has = c.requires.there.1 in
    let below = slice_get_within was.tasks.items c.args.place.part has.task has.here in
    let first = task_here was.tasks.items c.args.place.part c.index-task.result.now below c.index-task.ensures in
    let here = task_here was.tasks.items c.args.place.part c.index_mut-task.result.now below c.index_mut-task.ensures.value in
    let same : c.index-task.result.now ≡ c.index_mut-task.result.now =
    same_task was.tasks.items c.args.place.part c.args.place.part _ _ refl first here in
    let none = subst (λ (t : Task). (i : ℕ) → slice_get t.part.numbers.items c.args.place.row ≢ Some (suc i)) same
    (c.number_of.ensures.none c.in_default.is) in
    let count : c.len-number.result ≡ length was.order.items = c.len-number.ensures ∙ was.order.ok.0 in
    rw c.in_ok-push.ensures.items (number_agree was.width was.tasks.items was.order.items c.args.place row _
    (gets_number was.width was.tasks.items was.order.items c.args.place row c.index_mut-task.result.now _
    (c.len-number.result + 1) c.requires.whole has here none refl refl (omega arith) refl refl refl
    (omega (arith, c.requires.whole.few, c.if-number.false))))

pub returns-clause-interned : goal.returns-clause-interned
returns-clause-interned c = λ row has.
    let was = c.args.self.now in
    let below = slice_get_within was.tasks.items c.args.place.part has.task has.here in
    let first = task_here was.tasks.items c.args.place.part c.index-task.result.now below c.index-task.ensures in
    let here = task_here was.tasks.items c.args.place.part c.index_mut-task.result.now below c.index_mut-task.ensures.value in
    let same : c.index-task.result.now ≡ c.index_mut-task.result.now =
    same_task was.tasks.items c.args.place.part c.args.place.part _ _ refl first here in
    let none = subst (λ (t : Task). (i : ℕ) → slice_get t.part.numbers.items c.args.place.row ≢ Some (suc i)) same
    (c.number_of.ensures.none c.in_default.is) in
    let count : c.len-number.result ≡ length was.order.items = c.len-number.ensures ∙ was.order.ok.0 in
    rw (c.in_ok-push.ensures.items, count) (number_interned was.width was.tasks.items was.order.items c.args.place row _
    (gets_number was.width was.tasks.items was.order.items c.args.place row c.index_mut-task.result.now _
    (length was.order.items + 1) c.requires.whole has here none refl refl (omega arith) refl refl refl
    (omega (arith, c.requires.whole.few, c.if-number.false, count))))

pub returns-clause-same_found : goal.returns-clause-same_found
returns-clause-same_found c = λ sent r found.
    let was = c.args.self.now in
    let row = c.requires.there.0 in
    let has = c.requires.there.1 in
    let below = slice_get_within was.tasks.items c.args.place.part has.task has.here in
    let first = task_here was.tasks.items c.args.place.part c.index-task.result.now below c.index-task.ensures in
    let here = task_here was.tasks.items c.args.place.part c.index_mut-task.result.now below c.index_mut-task.ensures.value in
    let same : c.index-task.result.now ≡ c.index_mut-task.result.now =
    same_task was.tasks.items c.args.place.part c.args.place.part _ _ refl first here in
    let none = subst (λ (t : Task). (i : ℕ) → slice_get t.part.numbers.items c.args.place.row ≢ Some (suc i)) same
    (c.number_of.ensures.none c.in_default.is) in
    let count : c.len-number.result ≡ length was.order.items = c.len-number.ensures ∙ was.order.ok.0 in
    number_found was.width was.tasks.items was.order.items c.args.place row _
    (gets_number was.width was.tasks.items was.order.items c.args.place row c.index_mut-task.result.now _
    (c.len-number.result + 1) c.requires.whole has here none refl refl (omega arith) refl refl refl
    (omega (arith, c.requires.whole.few, c.if-number.false))) sent r found
