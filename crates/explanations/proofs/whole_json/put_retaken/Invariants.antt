-- What the sink took, what is kept and the others' texts are those of all; no put has failed; the follower took the events
-- so far.
use Rattle.std.proofs.Common.{◌≡◌, ◌++◌, false, drop, string_bytes}
use Rattle.cheri_model.specs.runs.Replay.{operations_of}
use Rattle.sinks.specs.Sinks.{TakesAllBut}
use Rattle.explanations.specs.Explanation.{explained_events}
use Rattle.explanations.specs.JsonText.{events_from}
use Rattle.explanations.proofs.RunLemmas.{IsAt}
use Rattle.explanations.proofs.whole_json.put_retaken.Given as goal

abbrev pub invariant-loop-number : goal.invariant-loop-number
invariant-loop-number g l =
    let order = operations_of l.core.trace in
    let events = explained_events l.core.image order in
    record {
      taken : TakesAllBut (g.S.Sink.written l.initial.sink) (g.S.Sink.written l.sink)
          (string_bytes l.out ++ events_from l.shown.lines.now l.shown.selection l.later l.number (drop l.number events))
          (string_bytes l.initial.out ++ events_from l.shown.lines.now l.shown.selection false 0 events);
      failures : g.S.Sink.failures l.sink ≡ g.S.Sink.failures l.initial.sink;
      identity : g.S.Sink.identity l.sink ≡ g.S.Sink.identity l.initial.sink;
      position : IsAt l.core.image l.core.limit order l.number l.retaken.follower;
    }
