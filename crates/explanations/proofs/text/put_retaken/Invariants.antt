-- What the sink took, what is kept and the lines of the others are those of all; no put has failed; the follower took the
-- events so far.
use Rattle.std.proofs.Common.{◌≡◌, ◌++◌, drop, string_bytes}
use Rattle.cheri_model.specs.runs.Replay.{operations_of}
use Rattle.report_lines.specs.Texts.{numbered}
use Rattle.sinks.specs.Sinks.{TakesAllBut}
use Rattle.explanations.specs.Explanation.{explained_events, shown_lines}
use Rattle.explanations.proofs.RunLemmas.{IsAt}
use Rattle.explanations.proofs.text.put_retaken.Given as goal

abbrev pub invariant-loop-number : goal.invariant-loop-number
invariant-loop-number g l =
    let order = operations_of l.core.trace in
    let events = explained_events l.core.image order in
    let text = shown_lines l.shown.lines.now l.shown.selection in
    record {
      taken : TakesAllBut (g.S.Sink.written l.initial.sink) (g.S.Sink.written l.sink)
          (string_bytes l.out ++ numbered text l.number (drop l.number events))
          (string_bytes l.initial.out ++ numbered text 0 events);
      failures : g.S.Sink.failures l.sink ≡ g.S.Sink.failures l.initial.sink;
      identity : g.S.Sink.identity l.sink ≡ g.S.Sink.identity l.initial.sink;
      position : IsAt l.core.image l.core.limit order l.number l.retaken.follower;
    }
