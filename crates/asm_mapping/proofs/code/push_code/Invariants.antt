-- the lines so far, and then those of the instructions that are left
use Rattle.std.proofs.Common.{◌≡◌, ◌++◌, drop, map}
use Rattle.asm_symbols.specs.Definitions.{definition_parts}
use Rattle.asm_places.specs.Places.{places_parts}
use Rattle.asm_mapping.specs.Lines.{line_parts, each_line}
use Rattle.asm_mapping.specs.Code.{code_lines}
use Rattle.asm_mapping.proofs.code.push_code.Given as goal

abbrev pub invariant-loop-number : goal.invariant-loop-number
invariant-loop-number l =
    map line_parts l.lines.items ++ each_line (code_lines (places_parts l.places) (map definition_parts l.symbols)) l.number (drop l.number l.origins)
    ≡ map line_parts l.initial.lines.items ++ each_line (code_lines (places_parts l.places) (map definition_parts l.symbols)) 0 l.origins
