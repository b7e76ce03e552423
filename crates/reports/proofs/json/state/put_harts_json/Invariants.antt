-- What the sink took, what is kept and the texts of the others are those of all; no put has failed.
use Rattle.std.proofs.Common.{◌≡◌, ◌++◌, drop, string_bytes}
use Rattle.report_lines.specs.JsonText.{item_text}
use Rattle.report_lines.specs.Texts.{numbered}
use Rattle.reports.specs.Json.{hart_data}
use Rattle.sinks.specs.Sinks.{TakesAllBut}
use Rattle.reports.proofs.json.state.put_harts_json.Given as goal

abbrev pub invariant-loop-number : goal.invariant-loop-number
invariant-loop-number g l = record {
  taken : TakesAllBut (g.S.Sink.written l.initial.sink) (g.S.Sink.written l.sink)
      (string_bytes l.out ++ numbered (item_text hart_data) l.number (drop l.number l.harts))
      (string_bytes l.initial.out ++ numbered (item_text hart_data) 0 l.harts);
  failures : g.S.Sink.failures l.sink ≡ g.S.Sink.failures l.initial.sink;
  identity : g.S.Sink.identity l.sink ≡ g.S.Sink.identity l.initial.sink;
}
