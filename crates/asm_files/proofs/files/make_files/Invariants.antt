-- what the files so far make, and then the others
use Rattle.std.proofs.Common.{◌≡◌, drop, map}
use Rattle.asm_files.specs.Steps.{each_from}
use Rattle.asm_files.specs.Sections.{sections_parts}
use Rattle.asm_files.specs.Programs.{file_parts, made_parts}
use Rattle.asm_files.specs.Files.{file_put, no_made}
use Rattle.asm_files.proofs.files.make_files.Given as goal

abbrev pub invariant-loop-number : goal.invariant-loop-number
invariant-loop-number l =
    each_from (file_put (sections_parts l.sections)) l.number (map file_parts (drop l.number l.files)) (made_parts l.made)
    ≡ each_from (file_put (sections_parts l.sections)) 0 (map file_parts l.files) no_made
