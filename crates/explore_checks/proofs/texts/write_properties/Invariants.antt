-- the lines so far are written
use Rattle.std.proofs.Common.{◌≡◌, ◌++◌, drop, string_bytes}
use Rattle.explore_checks.specs.CheckTexts.{line_of}
use Rattle.report_lines.specs.Texts.{numbered}
use Rattle.explore_checks.proofs.texts.write_properties.Given as goal

abbrev pub invariant-loop-property : goal.invariant-loop-property
invariant-loop-property l =
    string_bytes l.out ++ numbered line_of l.property-index (drop l.property-index l.told)
    ≡ string_bytes l.initial.out ++ numbered line_of 0 l.told
