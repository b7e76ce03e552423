-- the names so far, and then those of the other files
use Rattle.std.proofs.Common.{◌≡◌, ◌++◌, drop, map}
use Rattle.asm_files.specs.Programs.{file_parts}
use Rattle.asm_files.specs.Sections.{bytes_of}
use Rattle.asm_files.specs.Files.{all_names}
use Rattle.asm_files.proofs.texts.push_all_names.Given as goal

abbrev pub invariant-loop-file : goal.invariant-loop-file
invariant-loop-file l =
    map bytes_of l.names.items ++ all_names (map file_parts (drop l.file-index l.files))
    ≡ map bytes_of l.initial.names.items ++ all_names (map file_parts l.files)
