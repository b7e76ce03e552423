-- the properties so far are written
use Rattle.std.proofs.Common.{◌≡◌, ◌++◌, drop, string_bytes}
use Rattle.explore_checks.specs.CheckTexts.{property_data}
use Rattle.report_lines.specs.JsonText.{item_text}
use Rattle.report_lines.specs.Texts.{numbered}
use Rattle.explore_checks.proofs.json.write_properties.Given as goal

abbrev pub invariant-loop-number : goal.invariant-loop-number
invariant-loop-number l =
    string_bytes l.out ++ numbered (item_text property_data) l.number (drop l.number l.told)
    ≡ string_bytes l.initial.out ++ numbered (item_text property_data) 0 l.told
