-- The lines so far, followed by those of the other registers, are those of all.
use Rattle.std.proofs.Common.{◌≡◌, ◌-◌, ◌++◌, string_bytes}
use Rattle.reports.specs.Report.{register_lines}
use Rattle.shown_states.proofs.texts.write_registers.Given as goal

abbrev pub invariant-loop-number : goal.invariant-loop-number
invariant-loop-number l =
    string_bytes l.out ++ register_lines l.hart l.number (32 - l.number)
    ≡ string_bytes l.initial.out ++ register_lines l.hart 1 31
