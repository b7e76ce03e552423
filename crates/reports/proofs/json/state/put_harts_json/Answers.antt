use Rattle.std.proofs.Common.{refl, ◌∙◌}
use Rattle.report_lines.specs.JsonText.{item_text}
use Rattle.report_lines.proofs.Items.{item_takes, item_stops, items_end}
use Rattle.report_lines.proofs.JsonLists.{list_text, closed_takes, closed_begins}
use Rattle.reports.specs.Json.{hart_data}
use Rattle.sinks.proofs.SinkLemmas.{no_failure}
use Rattle.reports.proofs.JsonParts.{head_begun}
use Rattle.reports.proofs.json.state.put_harts_json.Goals as goal

pub returns-in_err-push_str-clause-prefix : goal.returns-in_err-push_str-clause-prefix
returns-in_err-push_str-clause-prefix g c = head_begun _ _

pub returns-in_err-write_hart-clause-prefix : goal.returns-in_err-write_hart-clause-prefix
returns-in_err-write_hart-clause-prefix g c =
    closed_begins _ _ _ _ _ _ _ _ c.in_ok-push_str.ensures.bytes (list_text hart_data c.args.harts.now)
    (_, c.loop-number.invariant.taken)

pub returns-in_err-make_room-clause-prefix : goal.returns-in_err-make_room-clause-prefix
returns-in_err-make_room-clause-prefix g c =
    closed_begins _ _ _ _ _ _ _ _ c.in_ok-push_str.ensures.bytes (list_text hart_data c.args.harts.now)
    (item_stops (item_text hart_data) c.args.harts.now _ _ _ _ _ _ _ _ _ c.loop-number-test.true c.index-harts-number.is
    c.in_ok-write_hart.ensures c.loop-number.invariant.taken c.make_room.ensures.prefix)

pub loop-number-preserved : goal.loop-number-preserved
loop-number-preserved g c = record {
  taken =
      item_takes (item_text hart_data) c.args.harts.now _ _ _ _ _ _ _ _ _ _ c.loop-number-test.true c.index-harts-number.is
      c.in_ok-write_hart.ensures c.loop-number.invariant.taken c.in_ok-make_room.ensures.whole;
  failures = no_failure _ _ _ c.in_ok-make_room.ensures.failures c.loop-number.invariant.failures;
  identity = c.make_room.ensures.identity ∙ c.loop-number.invariant.identity;
}

pub returns-in_err-push_str-2-clause-prefix : goal.returns-in_err-push_str-2-clause-prefix
returns-in_err-push_str-2-clause-prefix g c =
    closed_begins _ _ _ _ _ _ _ _ c.in_ok-push_str.ensures.bytes (list_text hart_data c.args.harts.now)
    (_, c.loop-number.invariant.taken)

pub returns-clause-prefix : goal.returns-clause-prefix
returns-clause-prefix g c =
    closed_begins _ _ _ _ _ _ _ _ c.in_ok-push_str.ensures.bytes (list_text hart_data c.args.harts.now)
    (_, c.loop-number.invariant.taken)

pub returns-clause-whole : goal.returns-clause-whole
returns-clause-whole g c =
    closed_takes _ _ _ _ _ _ _ _ _ _ c.in_ok-push_str.ensures.bytes c.in_ok-push_str-2.ensures.bytes
    (list_text hart_data c.args.harts.now)
    (items_end (item_text hart_data) c.args.harts.now _ _ _ _ _ c.loop-number-test.false c.loop-number.invariant.taken)
