-- the blocks so far are written
use Rattle.std.proofs.Common.{◌≡◌, ◌++◌, drop, string_bytes}
use Rattle.authority_texts.specs.AuthorityTexts.{hart_block}
use Rattle.report_lines.specs.Texts.{numbered}
use Rattle.authority_texts.proofs.text.write_harts.Given as goal

abbrev pub invariant-loop-number : goal.invariant-loop-number
invariant-loop-number l =
    string_bytes l.out ++ numbered hart_block l.number (drop l.number l.harts)
    ≡ string_bytes l.initial.out ++ numbered hart_block 0 l.harts
