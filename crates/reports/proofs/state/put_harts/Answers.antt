use Rattle.std.proofs.Common.{◌∙◌}
use Rattle.sinks.proofs.SinkLemmas.{no_failure}
use Rattle.report_lines.proofs.Items.{item_takes, item_stops, items_end}
use Rattle.reports.specs.Report.{hart_lines}
use Rattle.reports.proofs.state.put_harts.Goals as goal

pub returns-in_err-make_room-clause-prefix : goal.returns-in_err-make_room-clause-prefix
returns-in_err-make_room-clause-prefix g c =
    item_stops hart_lines c.args.harts.now _ _ _ _ _ _ _ _ _ c.loop-number-test.true c.index-harts-number.is c.in_ok-write_hart.ensures c.loop-number.invariant.taken
    c.make_room.ensures.prefix

pub loop-number-preserved : goal.loop-number-preserved
loop-number-preserved g c = record {
  taken =
      item_takes hart_lines c.args.harts.now _ _ _ _ _ _ _ _ _ _ c.loop-number-test.true c.index-harts-number.is c.in_ok-write_hart.ensures c.loop-number.invariant.taken
      c.in_ok-make_room.ensures.whole;
  failures = no_failure _ _ _ c.in_ok-make_room.ensures.failures c.loop-number.invariant.failures;
  identity = c.make_room.ensures.identity ∙ c.loop-number.invariant.identity;
}

pub returns-clause-whole : goal.returns-clause-whole
returns-clause-whole g c =
    items_end hart_lines c.args.harts.now _ _ _ _ _ c.loop-number-test.false c.loop-number.invariant.taken
