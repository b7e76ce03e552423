use Rattle.std.proofs.Common.{◌<◌, ◌≤◌, length, arith, ◌∙◌}
use Rattle.cheri_model.specs.steps.Memory.{granule_at}
use Rattle.sinks.proofs.SinkLemmas.{no_failure}
use Rattle.report_lines.proofs.Items.{item_takes, item_stops, items_end}
use Rattle.report_lines.specs.Lines.{granule_line}
use Rattle.reports.proofs.state.put_granules.Goals as goal

pub returns-in_err-make_room-clause-prefix : goal.returns-in_err-make_room-clause-prefix
unfolding granule_at
returns-in_err-make_room-clause-prefix g c =
    let room : c.loop-number.number < length c.args.ram.now = omega arith in
    item_stops granule_line c.args.ram.now _ _ _ _ _ _ _ _ _ room c.granule.ensures.value c.in_ok-write_granule_line.ensures c.loop-number.invariant.taken
    c.make_room.ensures.prefix

pub loop-number-preserved : goal.loop-number-preserved
unfolding granule_at
loop-number-preserved g c =
    let room : c.loop-number.number < length c.args.ram.now = omega arith in
    record {
      taken =
          item_takes granule_line c.args.ram.now _ _ _ _ _ _ _ _ _ _ room c.granule.ensures.value c.in_ok-write_granule_line.ensures c.loop-number.invariant.taken
          c.in_ok-make_room.ensures.whole;
      failures = no_failure _ _ _ c.in_ok-make_room.ensures.failures c.loop-number.invariant.failures;
      identity = c.make_room.ensures.identity ∙ c.loop-number.invariant.identity;
    }

pub returns-clause-whole : goal.returns-clause-whole
unfolding granule_at
returns-clause-whole g c =
    let ended : length c.args.ram.now ≤ c.loop-number.number = omega arith in
    items_end granule_line c.args.ram.now _ _ _ _ _ ended c.loop-number.invariant.taken
