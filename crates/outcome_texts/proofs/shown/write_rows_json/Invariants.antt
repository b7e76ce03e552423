-- the rows so far are written
use Rattle.std.proofs.Common.{◌≡◌, ◌++◌, drop, map, string_bytes}
use Rattle.outcome_texts.specs.ReducedTexts.{said_row_data}
use Rattle.report_lines.specs.JsonText.{item_text}
use Rattle.report_lines.specs.Texts.{numbered}
use Rattle.outcome_texts.proofs.shown.write_rows_json.Given as goal

abbrev pub invariant-loop-number : goal.invariant-loop-number
invariant-loop-number l =
    string_bytes l.out ++ numbered (item_text (said_row_data l.reduced (map (λ name. name.now) l.names))) l.number (drop l.number l.rows)
    ≡ string_bytes l.initial.out ++ numbered (item_text (said_row_data l.reduced (map (λ name. name.now) l.names))) 0 l.rows
