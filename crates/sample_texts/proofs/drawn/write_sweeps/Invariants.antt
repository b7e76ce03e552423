-- those so far are written
use Rattle.std.proofs.Common.{◌≡◌, ◌++◌, drop, string_bytes}
use Rattle.report_lines.specs.Texts.{numbered}
use Rattle.sample_texts.specs.SampleJson.{sweep_part}
use Rattle.sample_texts.proofs.drawn.write_sweeps.Given as goal

abbrev pub invariant-loop-place : goal.invariant-loop-place
invariant-loop-place l =
    string_bytes l.out ++ numbered (sweep_part l.format) l.place (drop l.place l.sweeps)
    ≡ string_bytes l.initial.out ++ numbered (sweep_part l.format) 0 l.sweeps
