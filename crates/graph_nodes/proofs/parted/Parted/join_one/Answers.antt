use Rattle.std.proofs.Common.{rules}
use Rattle.std.proofs.lemmas.Option.{slice_get_within}
use Rattle.graph_nodes.specs.Parted.{nodes_in, rows_at, IsFoundFor}
use Rattle.graph_nodes.proofs.JoinLemmas.{not_joined, one_joined}
use Rattle.graph_nodes.proofs.FoundLemmas.{target_row, no_target, found_task}
use Rattle.graph_nodes.proofs.parted.Parted.join_one.Goals as goal

pub returns-in_default-clause-joined : goal.returns-in_default-clause-joined
returns-in_default-clause-joined c = λ target is.
    let tasks = c.args.self.now.tasks.items in
    let none = no_target (IsFoundFor tasks) target (rw c.in_default.is at is) in
    rw none (not_joined (rows_at tasks c.args.self.now.order.items))

pub index-task-requires : goal.index-task-requires
index-task-requires c =
    let tasks = c.args.self.now.tasks.items in
    let there = c.requires.there.1 in
    let row = target_row (IsFoundFor tasks) c.in-Some.sent c.requires.there.0 (rw c.in-Some.is at there) in
    let within = slice_get_within tasks c.in-Some.sent.part row.2.task row.2.here in
    search (rules, within)

pub index-place-requires : goal.index-place-requires
index-place-requires c =
    let tasks = c.args.self.now.tasks.items in
    let there = c.requires.there.1 in
    let row = target_row (IsFoundFor tasks) c.in-Some.sent c.requires.there.0 (rw c.in-Some.is at there) in
    let within = (found_task tasks c.in-Some.sent row.0 row.2 c.index-task.result.now c.index-task.ensures).0 in
    search (rules, within)

pub number-requires-clause-there : goal.number-requires-clause-there
number-requires-clause-there c =
    let tasks = c.args.self.now.tasks.items in
    let there = c.requires.there.1 in
    let row = target_row (IsFoundFor tasks) c.in-Some.sent c.requires.there.0 (rw c.in-Some.is at there) in
    let found = found_task tasks c.in-Some.sent row.0 row.2 c.index-task.result.now c.index-task.ensures in
    (row.0, found.1 c.index-place.result.now c.index-place.ensures)

pub returns-clause-joined : goal.returns-clause-joined
returns-clause-joined c = λ target is.
    let tasks = c.args.self.now.tasks.items in
    let row = target_row (IsFoundFor tasks) c.in-Some.sent target (rw c.in-Some.is at is) in
    let found = found_task tasks c.in-Some.sent row.0 row.2 c.index-task.result.now c.index-task.ensures in
    let has = found.1 c.index-place.result.now c.index-place.ensures in
    rw row.1 (one_joined (nodes_in c.args.self.now) (nodes_in c.number.new.self) row.0 c.in_ok-number.field-0
    c.len-before.result c.len.result (c.in_ok-number.ensures.interned row.0 has) c.len.ensures.distinct
    c.len-before.ensures.count c.len.ensures.count)
