use Rattle.std.proofs.Common.{◌≤◌, [], length, refl, ap, ◌∙◌, arith}
use Rattle.std.specs.Prelude.{◌||◌}
use Rattle.sinks.proofs.SinkLemmas.{no_failure, takes_none}
use Rattle.explanations.proofs.JsonParts.{event_takes, event_stops, events_end}
use Rattle.facts.specs.EventFacts.{EventFacts, sweep}
use Rattle.cheri_model.specs.runs.Replay.{operations_of}
use Rattle.explanations.specs.Explanation.{explained_events, is_shown}
use Rattle.explanations.specs.JsonText.{shown_item}
use Rattle.explanations.proofs.RunLemmas.{at_opening, replayed, turn, told_in, explained_length}
use Rattle.explanations.proofs.whole_json.put_retaken.Goals as goal

pub loop-number-init : goal.loop-number-init
loop-number-init g c = record {
  taken = takes_none _ _;
  failures = refl;
  identity = refl;
  position =
      at_opening c.args.core.now.image c.args.core.now.limit (operations_of c.args.core.now.trace) c.args.retaken.now.follower
      c.requires.opened;
}

pub loop-number-preserved : goal.loop-number-preserved
loop-number-preserved g c =
    let core = c.args.core.now in
    let k = c.loop-number.number in
    let now = turn core.image core.trace c.view-view.result.entries.now core.limit k _ _ core.state c.loop-number.retaken.follower
    c.view-view.ensures.entries c.loop-number-test.true refl c.view-view.ensures.replay c.requires.fits c.loop-number.invariant.position in
    record {
      taken =
          rw (c.in_ok-later.ensures.later ∙ ap (λ (f : EventFacts). c.loop-number.later || is_shown c.args.shown.selection k f) (c.in_ok-places.ensures.facts now.goes))
          (event_takes c.args.shown.lines.now c.args.shown.selection (explained_events core.image (operations_of core.trace)) k _ _ c.loop-number.later _ _ _ _ _ _
          now.inside (now.explained (sweep [])) (told_in (shown_item c.args.shown.lines.now c.args.shown.selection c.loop-number.later k) _ _ _ _ _ c.in_ok-later.ensures.item (c.in_ok-places.ensures.facts now.goes)) c.loop-number.invariant.taken _
          c.in_ok-make_room.ensures.whole);
      failures = no_failure _ _ _ c.in_ok-make_room.ensures.failures c.loop-number.invariant.failures;
      identity = c.make_room.ensures.identity ∙ c.loop-number.invariant.identity;
      position = now.next c.take.new.follower (c.in_ok-places.ensures.after now.goes);
    }

pub returns-in_err-make_room-clause-prefix : goal.returns-in_err-make_room-clause-prefix
returns-in_err-make_room-clause-prefix g c =
    let core = c.args.core.now in
    let k = c.loop-number.number in
    let now = turn core.image core.trace c.view-view.result.entries.now core.limit k _ _ core.state c.loop-number.retaken.follower
    c.view-view.ensures.entries c.loop-number-test.true refl c.view-view.ensures.replay c.requires.fits c.loop-number.invariant.position in
    event_stops c.args.shown.lines.now c.args.shown.selection (explained_events core.image (operations_of core.trace)) k _ _ c.loop-number.later _ _ _ _ _ _
    now.inside (now.explained (sweep [])) (told_in (shown_item c.args.shown.lines.now c.args.shown.selection c.loop-number.later k) _ _ _ _ _ c.in_ok-later.ensures.item (c.in_ok-places.ensures.facts now.goes)) c.loop-number.invariant.taken
    c.make_room.ensures.prefix

pub returns-clause-whole : goal.returns-clause-whole
returns-clause-whole g c =
    let core = c.args.core.now in
    let k = c.loop-number.number in
    let whole = replayed core.image core.trace core.state c.view-view.ensures.replay in
    let ended : length core.trace ≤ k = rw c.view-view.ensures.entries at c.loop-number-test.false in
    let all : length (explained_events core.image (operations_of core.trace)) ≤ k = omega (arith, explained_length core.image core.trace whole) in
    rw c.in_ok-push_str.ensures.bytes
    (events_end c.args.shown.lines.now c.args.shown.selection (explained_events core.image (operations_of core.trace)) k c.loop-number.later _ _ _ _ all
    c.loop-number.invariant.taken)
