-- the texts so far are those of the files so far
use Rattle.std.proofs.Common.{◌≡◌, map, take}
use Rattle.asm_files.specs.Programs.{text_of}
use Rattle.asm_program.specs.Texts.{AreRead, text_items}
use Rattle.asm_program.proofs.texts.read_all.Given as goal

abbrev pub invariant-loop-name : goal.invariant-loop-name
invariant-loop-name g l =
    AreRead (map (g.F.Files.bytes_of l.initial.files) (map text_of (take l.name-index l.names))) (map text_items l.texts.items)
    × (g.F.Files.bytes_of l.files ≡ g.F.Files.bytes_of l.initial.files)
