use Rattle.std.proofs.Common.{◌<◌, length, arith, ap, sym, ◌∙◌}
use Rattle.std.specs.Prelude.{slice_get, map}
use Rattle.std.proofs.lemmas.Option.{none-some}
use Rattle.graph_nodes.specs.Parted.{row_of, rows_at}
use Rattle.graph_nodes.proofs.PartedLemmas.{empty_agree, one_more_empty}
use Rattle.graph_nodes.proofs.parted.Parted.new.Goals as goal

pub loop-init : goal.loop-init
loop-init c = record {
  count = ap length c.new-tasks.ensures.items;
  each = λ p task at. absurd (none-some task (sym (ap (λ ts. slice_get ts p) c.new-tasks.ensures.items) ∙ at));
}

pub loop-preserved : goal.loop-preserved
loop-preserved c = record {
  count = search (arith, c.in_ok-push.ensures.items, c.loop.invariant.count);
  each = one_more_empty c.args.width c.loop.tasks.items c.push.new.self.items c.new.result c.in_ok-push.ensures.items
      (record {
        wide = c.new.ensures.width;
        numbers = c.new.ensures.numbers;
        ready = c.new.ensures.ready;
      }) c.loop.invariant.each;
}

pub returns-clause-whole : goal.returns-clause-whole
returns-clause-whole c =
    let some : 0 < length c.loop.tasks.items = omega (arith, c.requires, c.loop.invariant.count, c.loop-test.false) in
    empty_agree c.args.width c.loop.tasks.items c.new-2.result.items some c.new-2.ensures.items c.loop.invariant.each

pub returns-clause-rows : goal.returns-clause-rows
unfolding rows_at
returns-clause-rows c = ap (map (row_of c.loop.tasks.items)) c.new-2.ensures.items
