-- the outcomes so far are written
use Rattle.std.proofs.Common.{◌≡◌, ◌++◌, drop, string_bytes}
use Rattle.report_lines.specs.Texts.{numbered}
use Rattle.alike_outcomes.specs.AlikeTexts.{left_text}
use Rattle.alike_outcomes.proofs.listed.write_outcomes.Given as goal

abbrev pub invariant-loop-number : goal.invariant-loop-number
invariant-loop-number l =
    string_bytes l.out ++ numbered (left_text l.format l.image) l.number (drop l.number l.orders)
    ≡ string_bytes l.initial.out ++ numbered (left_text l.format l.image) 0 l.orders
