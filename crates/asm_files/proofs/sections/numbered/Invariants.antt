-- the sections so far, and then those of the other names
use Rattle.std.proofs.Common.{◌≡◌, drop, map, fold}
use Rattle.asm_files.specs.Sections.{bytes_of, opening_sections, sections_parts, with_section}
use Rattle.asm_files.proofs.sections.numbered.Given as goal

abbrev pub invariant-loop-name : goal.invariant-loop-name
invariant-loop-name l =
    fold with_section (sections_parts l.sections) (map bytes_of (drop l.name-index l.names))
    ≡ fold with_section opening_sections (map bytes_of l.names)
