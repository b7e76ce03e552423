-- the lines so far, and then those of the symbols that are left
use Rattle.std.proofs.Common.{◌≡◌, ◌++◌, drop, map}
use Rattle.asm_symbols.specs.Definitions.{definition_parts}
use Rattle.asm_places.specs.Capabilities.{objects_parts}
use Rattle.asm_mapping.specs.Lines.{line_parts, each_line}
use Rattle.asm_mapping.specs.Memory.{symbol_lines}
use Rattle.asm_mapping.proofs.memory.push_symbols.Given as goal

abbrev pub invariant-loop-number : goal.invariant-loop-number
invariant-loop-number l =
    map line_parts l.lines.items ++ each_line (symbol_lines (objects_parts l.objects)) l.number (map definition_parts (drop l.number l.symbols))
    ≡ map line_parts l.initial.lines.items ++ each_line (symbol_lines (objects_parts l.objects)) 0 (map definition_parts l.symbols)
