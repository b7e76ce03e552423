-- the lines so far are written
use Rattle.std.proofs.Common.{◌≡◌, ◌++◌, drop, string_bytes}
use Rattle.report_lines.specs.Lines.{granule_line}
use Rattle.report_lines.specs.Texts.{numbered}
use Rattle.shown_states.proofs.texts.write_granules.Given as goal

abbrev pub invariant-loop-number : goal.invariant-loop-number
invariant-loop-number l =
    string_bytes l.out ++ numbered granule_line l.number (drop l.number l.ram)
    ≡ string_bytes l.initial.out ++ numbered granule_line 0 l.ram
