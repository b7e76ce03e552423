-- the files so far, and then the others
use Rattle.std.proofs.Common.{◌≡◌, [], drop, map}
use Rattle.asm_files.specs.Steps.{each_from}
use Rattle.asm_files.specs.Programs.{file_parts, text_of}
use Rattle.asm_files.specs.Files.{file_read}
use Rattle.asm_files.proofs.texts.read_files.Given as goal

abbrev pub invariant-loop-number : goal.invariant-loop-number
invariant-loop-number l =
    each_from file_read l.number (map text_of (drop l.number l.texts)) (map file_parts l.files.items) ≡ each_from file_read 0 (map text_of l.texts) []
