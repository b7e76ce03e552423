use Rattle.std.proofs.Common.{refl, ◌∙◌}
use Rattle.sinks.proofs.SinkLemmas.{no_failure}
use Rattle.report_lines.proofs.Items.{item_takes, item_stops, items_end}
use Rattle.report_lines.specs.Lines.{event_line}
use Rattle.reports.proofs.report.put_events.Goals as goal

pub returns-in_err-make_room-clause-prefix : goal.returns-in_err-make_room-clause-prefix
returns-in_err-make_room-clause-prefix g c =
    item_stops event_line c.args.events.now _ _ _ _ _ _ _ _ _ c.loop-number-test.true refl c.in_ok-write_event_line.ensures c.loop-number.invariant.taken
    c.make_room.ensures.prefix

pub loop-number-preserved : goal.loop-number-preserved
loop-number-preserved g c = record {
  taken =
      item_takes event_line c.args.events.now _ _ _ _ _ _ _ _ _ _ c.loop-number-test.true refl c.in_ok-write_event_line.ensures c.loop-number.invariant.taken
      c.in_ok-make_room.ensures.whole;
  failures = no_failure _ _ _ c.in_ok-make_room.ensures.failures c.loop-number.invariant.failures;
  identity = c.make_room.ensures.identity ∙ c.loop-number.invariant.identity;
}

pub returns-clause-whole : goal.returns-clause-whole
returns-clause-whole g c =
    items_end event_line c.args.events.now _ _ _ _ _ c.loop-number-test.false c.loop-number.invariant.taken
