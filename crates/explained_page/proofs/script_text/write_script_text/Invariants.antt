-- What was written so far stands for the bytes so far.
use Rattle.std.proofs.Common.{◌≡◌, ◌++◌, take}
use Rattle.std.specs.List.{flat_map}
use Rattle.explained_page.specs.ScriptText.{script_byte}
use Rattle.explained_page.proofs.script_text.write_script_text.Given as goal

abbrev pub invariant-loop-byte : goal.invariant-loop-byte
invariant-loop-byte l =
    l.out.items ≡ l.initial.out.items ++ flat_map script_byte (take l.byte-index l.text)
