-- What the sink took, what is kept and the texts of the others are those of all; no put has failed.
use Rattle.std.proofs.Common.{◌≡◌, ◌++◌, drop, false, string_bytes}
use Rattle.reports.specs.JsonText.{granule_members}
use Rattle.sinks.specs.Sinks.{TakesAllBut}
use Rattle.reports.proofs.json.state.put_granules_json.Given as goal

abbrev pub invariant-loop-number : goal.invariant-loop-number
invariant-loop-number g l = record {
  taken : TakesAllBut (g.S.Sink.written l.initial.sink) (g.S.Sink.written l.sink)
      (string_bytes l.out ++ granule_members l.later l.number (drop l.number l.ram))
      (string_bytes l.initial.out ++ granule_members false 0 l.ram);
  failures : g.S.Sink.failures l.sink ≡ g.S.Sink.failures l.initial.sink;
  identity : g.S.Sink.identity l.sink ≡ g.S.Sink.identity l.initial.sink;
}
