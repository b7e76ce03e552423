-- the lines so far, and then those of the entries that are left
use Rattle.std.proofs.Common.{◌≡◌, ◌++◌, drop, map}
use Rattle.asm_symbols.specs.Definitions.{definition_parts}
use Rattle.asm_mapping.specs.Lines.{line_parts, each_line}
use Rattle.asm_mapping.specs.Memory.{table_lines}
use Rattle.asm_mapping.proofs.memory.push_table.Given as goal

abbrev pub invariant-loop-entry : goal.invariant-loop-entry
invariant-loop-entry l =
    map line_parts l.lines.items ++ each_line (table_lines (map definition_parts l.symbols)) l.entry (drop l.entry l.table)
    ≡ map line_parts l.initial.lines.items ++ each_line (table_lines (map definition_parts l.symbols)) 0 l.table
