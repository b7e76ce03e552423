-- the lines so far are written
use Rattle.std.proofs.Common.{◌≡◌, ◌++◌, drop, map, string_bytes}
use Rattle.outcome_texts.specs.ReducedTexts.{said_row_line}
use Rattle.report_lines.specs.Texts.{numbered}
use Rattle.outcome_texts.proofs.shown.write_rows.Given as goal

abbrev pub invariant-loop-number : goal.invariant-loop-number
invariant-loop-number l =
    string_bytes l.out ++ numbered (said_row_line l.reduced (map (λ name. name.now) l.names)) l.number (drop l.number l.rows)
    ≡ string_bytes l.initial.out ++ numbered (said_row_line l.reduced (map (λ name. name.now) l.names)) 0 l.rows
