-- the bytes of the words so far
use Rattle.std.proofs.Common.{◌≡◌, map, take}
use Rattle.asm_files.specs.Programs.{text_of}
use Rattle.asm_program.proofs.answers.words_of.Given as goal

abbrev pub invariant-loop-word : goal.invariant-loop-word
invariant-loop-word l = map text_of l.all.items ≡ map text_of (take l.word-index l.words)
