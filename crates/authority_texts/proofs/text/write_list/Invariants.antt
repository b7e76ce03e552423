-- the lines so far are written
use Rattle.std.proofs.Common.{◌≡◌, ◌++◌, drop, string_bytes}
use Rattle.authority_texts.specs.AuthorityTexts.{rights_lines}
use Rattle.authority_texts.proofs.text.write_list.Given as goal

abbrev pub invariant-loop-told : goal.invariant-loop-told
invariant-loop-told l =
    string_bytes l.out ++ rights_lines (drop l.told-index l.list)
    ≡ string_bytes l.initial.out ++ rights_lines l.list
