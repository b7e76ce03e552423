-- the lines so far are written
use Rattle.std.proofs.Common.{◌≡◌, ◌++◌, drop, string_bytes}
use Rattle.report_lines.specs.Texts.{numbered}
use Rattle.reports.specs.Report.{hart_lines}
use Rattle.shown_states.proofs.texts.write_harts.Given as goal

abbrev pub invariant-loop-number : goal.invariant-loop-number
invariant-loop-number l =
    string_bytes l.out ++ numbered hart_lines l.number (drop l.number l.harts)
    ≡ string_bytes l.initial.out ++ numbered hart_lines 0 l.harts
