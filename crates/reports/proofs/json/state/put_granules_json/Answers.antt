use Rattle.std.proofs.Common.{◌<◌, ◌≤◌, length, arith, ◌∙◌}
use Rattle.cheri_model.specs.steps.Memory.{granule_at}
use Rattle.report_lines.proofs.JsonLists.{closed_takes, closed_begins}
use Rattle.sinks.proofs.SinkLemmas.{no_failure}
use Rattle.reports.proofs.JsonParts.{head_begun, granule_takes, granule_stops, granules_end, memory_fits}
use Rattle.reports.proofs.JsonTexts.{memory_text}
use Rattle.reports.proofs.json.state.put_granules_json.Goals as goal

pub returns-in_err-push_str-clause-prefix : goal.returns-in_err-push_str-clause-prefix
returns-in_err-push_str-clause-prefix g c = head_begun _ _

pub returns-in_err-later-clause-prefix : goal.returns-in_err-later-clause-prefix
returns-in_err-later-clause-prefix g c =
    closed_begins _ _ _ _ _ _ _ _ c.in_ok-push_str.ensures.bytes
    (memory_text c.args.ram.now (memory_fits _ c.granule_count-number-end.ensures.memory))
    (_, c.loop-number.invariant.taken)

pub returns-in_err-make_room-clause-prefix : goal.returns-in_err-make_room-clause-prefix
unfolding granule_at
returns-in_err-make_room-clause-prefix g c =
    let room : c.loop-number.number < length c.args.ram.now = omega arith in
    closed_begins _ _ _ _ _ _ _ _ c.in_ok-push_str.ensures.bytes
    (memory_text c.args.ram.now (memory_fits _ c.granule_count-number-end.ensures.memory))
    (granule_stops c.args.ram.now _ _ _ _ _ _ _ _ _ _ room c.granule.ensures.value
    c.in_ok-later.ensures.written c.loop-number.invariant.taken c.make_room.ensures.prefix)

pub loop-number-preserved : goal.loop-number-preserved
unfolding granule_at
loop-number-preserved g c =
    let room : c.loop-number.number < length c.args.ram.now = omega arith in
    record {
      taken =
          granule_takes c.args.ram.now _ _ _ _ _ _ _ _ _ _ _ _ room c.granule.ensures.value
          c.in_ok-later.ensures.written c.in_ok-later.ensures.later c.loop-number.invariant.taken
          c.in_ok-make_room.ensures.whole;
      failures = no_failure _ _ _ c.in_ok-make_room.ensures.failures c.loop-number.invariant.failures;
      identity = c.make_room.ensures.identity ∙ c.loop-number.invariant.identity;
    }

pub returns-in_err-push_str-2-clause-prefix : goal.returns-in_err-push_str-2-clause-prefix
returns-in_err-push_str-2-clause-prefix g c =
    closed_begins _ _ _ _ _ _ _ _ c.in_ok-push_str.ensures.bytes
    (memory_text c.args.ram.now (memory_fits _ c.granule_count-number-end.ensures.memory))
    (_, c.loop-number.invariant.taken)

pub returns-clause-prefix : goal.returns-clause-prefix
returns-clause-prefix g c =
    closed_begins _ _ _ _ _ _ _ _ c.in_ok-push_str.ensures.bytes
    (memory_text c.args.ram.now (memory_fits _ c.granule_count-number-end.ensures.memory))
    (_, c.loop-number.invariant.taken)

pub returns-clause-whole : goal.returns-clause-whole
unfolding granule_at
returns-clause-whole g c =
    let ended : length c.args.ram.now ≤ c.loop-number.number = omega arith in
    closed_takes _ _ _ _ _ _ _ _ _ _ c.in_ok-push_str.ensures.bytes c.in_ok-push_str-2.ensures.bytes
    (memory_text c.args.ram.now (memory_fits _ c.granule_count-number-end.ensures.memory))
    (granules_end c.args.ram.now _ _ _ _ _ _ ended c.loop-number.invariant.taken)
