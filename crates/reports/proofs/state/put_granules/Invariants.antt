-- What the sink took, what is kept and the lines of the others are those of all; no put has failed.
use Rattle.std.proofs.Common.{◌≡◌, ◌++◌, drop, string_bytes}
use Rattle.report_lines.specs.Lines.{granule_line}
use Rattle.report_lines.specs.Texts.{numbered}
use Rattle.sinks.specs.Sinks.{TakesAllBut}
use Rattle.reports.proofs.state.put_granules.Given as goal

abbrev pub invariant-loop-number : goal.invariant-loop-number
invariant-loop-number g l = record {
  taken : TakesAllBut (g.S.Sink.written l.initial.sink) (g.S.Sink.written l.sink)
      (string_bytes l.out ++ numbered granule_line l.number (drop l.number l.ram))
      (string_bytes l.initial.out ++ numbered granule_line 0 l.ram);
  failures : g.S.Sink.failures l.sink ≡ g.S.Sink.failures l.initial.sink;
  identity : g.S.Sink.identity l.sink ≡ g.S.Sink.identity l.initial.sink;
}
