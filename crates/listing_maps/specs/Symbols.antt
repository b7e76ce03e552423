-- The symbols of a map, as conditions name them.
use Rattle.std.specs.Prelude.{ℕ, ◌+◌, ◌==◌, nat_le, Bool, false, ◌&&◌, if◌then◌else◌, List, drop}
use Rattle.std.specs.Prelude.{bytes_eq, position, Option, Some, None, option_and_then}
use Rattle.std.specs.List.{list_any}
use Rattle.asm_map_reader.specs.Lines.{LabelParts}
use Rattle.asm_map_reader.specs.Sources.{SourceParts, statement, guard, exit}

-- an instruction is at the beginning of a symbol, by the label before it
abbrev pub is_label_at : List ℕ → Option LabelParts → Bool
is_label_at name (Some label) = (label.offset == 0) && bytes_eq label.name name
is_label_at name None = false

abbrev pub is_at : List ℕ → SourceParts → Bool
is_at name (statement file line label) = is_label_at name label
is_at name guard = false
is_at name exit = false

-- the instruction at the beginning of a symbol, where no later one is
abbrev pub where_alone : List ℕ → List SourceParts → ℕ → Option ℕ
where_alone name sources first =
    if list_any (is_at name) (drop (first + 1) sources) then None else Some first

unfoldable pub symbol_place : List ℕ → List SourceParts → Option ℕ
symbol_place name sources =
    option_and_then (where_alone name sources) (position (is_at name) sources)

-- as the number of a target, which has 32 bits
abbrev pub target_number : ℕ → Option ℕ
target_number place = if nat_le place 0xFFFFFFFF then Some place else None

abbrev pub symbol_at : List ℕ → List SourceParts → Option ℕ
symbol_at name sources = option_and_then target_number (symbol_place name sources)
