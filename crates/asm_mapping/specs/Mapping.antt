-- The whole map of a program.
use Rattle.std.specs.Prelude.{ℕ, Bool, List, [], ◌∷◌, ◌++◌, length, map, option_map}
use Rattle.asm_harts.specs.declared.hart.Stack.{Stack}
use Rattle.asm_maps.specs.declared.line.Stack as map_line
use Rattle.asm_instructions.specs.declared.origin.Origin.{Origin}
use Rattle.asm_places.specs.Capabilities.{ObjectsParts, objects_parts}
use Rattle.asm_starts.specs.Starts.{NoteParts, note_parts}
use Rattle.asm_mapping.specs.declared.mapping.Mapped.{Mapped}
use Rattle.asm_mapping.specs.Lines.{LineParts, file, hart, shown_text, each_line}
use Rattle.asm_mapping.specs.Code.{code_lines, exit_lines}
use Rattle.asm_mapping.specs.Memory.{symbol_lines, table_lines}

-- the objects of a program, the symbols of its capability table, where each instruction comes from,
-- whether the guard and the exit follow, and what is told of harts
pub record MappedParts : Type 0 where
  pub objects : ObjectsParts
  pub table : List ℕ
  pub origins : List Origin
  pub exit : Bool
  pub harts : List NoteParts

abbrev pub mapped_parts : Mapped → MappedParts
mapped_parts mapped =
    record {
      objects = objects_parts mapped.objects;
      table = mapped.table.now;
      origins = mapped.origins.now;
      exit = mapped.exit;
      harts = map note_parts mapped.harts.now;
    }

abbrev pub file_lines : ℕ → List ℕ → List LineParts
file_lines number name = file number name ∷ []

abbrev pub stack_of : Stack → map_line.Stack
stack_of stack = record { base = stack.base; size = stack.size }

abbrev pub hart_line : ℕ → NoteParts → LineParts
hart_line number note =
    hart number (option_map shown_text note.entry) (option_map stack_of note.stack)

abbrev pub hart_lines : ℕ → NoteParts → List LineParts
hart_lines number note = hart_line number note ∷ []

-- the lines of the map of a program, of files of these names
unfoldable pub lines_of : MappedParts → List (List ℕ) → List LineParts
lines_of mapped names =
    each_line file_lines 1 names
    ++ each_line (code_lines mapped.objects.places mapped.objects.symbols) 0 mapped.origins
    ++ exit_lines (length mapped.origins) mapped.exit
    ++ each_line (symbol_lines mapped.objects) 0 mapped.objects.symbols
    ++ each_line (table_lines mapped.objects.symbols) 0 mapped.table
    ++ each_line hart_lines 0 mapped.harts
