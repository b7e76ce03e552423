-- What was taken, followed by what is left, is the piece; no put has failed.
use Rattle.std.proofs.Common.{◌≡◌, length}
use Rattle.sinks.specs.Sinks.{TakesAllBut}
use Rattle.sinks.proofs.sink.put_whole.Given as goal

abbrev pub invariant-loop-left : goal.invariant-loop-left
invariant-loop-left g l = record {
  taken : TakesAllBut (g.S.Sink.written l.initial.sink) (g.S.Sink.written l.sink) l.left l.initial.left;
  failures : g.S.Sink.failures l.sink ≡ g.S.Sink.failures l.initial.sink;
  identity : g.S.Sink.identity l.sink ≡ g.S.Sink.identity l.initial.sink;
}

abbrev pub decreases-loop-left : goal.decreases-loop-left
decreases-loop-left g l = length l.left
