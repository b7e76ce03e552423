-- those so far are written
use Rattle.std.proofs.Common.{◌≡◌, ◌++◌, drop, string_bytes}
use Rattle.report_lines.specs.Texts.{numbered}
use Rattle.sample_texts.specs.SampleJson.{span_part}
use Rattle.sample_texts.proofs.spans.write_spans.Given as goal

abbrev pub invariant-loop-place : goal.invariant-loop-place
invariant-loop-place l =
    string_bytes l.out ++ numbered (span_part l.format) l.place (drop l.place l.spans)
    ≡ string_bytes l.initial.out ++ numbered (span_part l.format) 0 l.spans
