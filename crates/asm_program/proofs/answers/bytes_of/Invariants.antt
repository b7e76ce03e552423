-- the bytes of the texts so far
use Rattle.std.proofs.Common.{◌≡◌, map, take}
use Rattle.asm_files.specs.Programs.{text_of}
use Rattle.asm_program.specs.Texts.{text_items}
use Rattle.asm_program.proofs.answers.bytes_of.Given as goal

abbrev pub invariant-loop-text : goal.invariant-loop-text
invariant-loop-text l = map text_of l.all.items ≡ map text_items (take l.text-index l.texts)
