-- Where instructions come from, by the map of their program, and how it is written.
use Rattle.std.specs.Prelude.{ℕ, List, ◌++◌, codes, decimal, Option, Some, None, option_map}
use Rattle.asm_map_reader.specs.declared.source.Source.{Source}
use Rattle.asm_map_reader.specs.declared.source.Source.TheVariants as sources
use Rattle.asm_map_reader.specs.Lines.{LabelParts, label_parts}

-- a statement, by its file, line and the label before it; the guard; the exit
pub data SourceParts : Type 0 where
  statement : List ℕ → ℕ → Option LabelParts → SourceParts
  guard : SourceParts
  exit : SourceParts

abbrev pub source_parts : Source → SourceParts
source_parts (sources.Statement file line label) =
    statement file.now line (option_map label_parts label)
source_parts sources.Guard = guard
source_parts sources.Exit = exit

abbrev pub label_text : Option LabelParts → List ℕ
label_text (Some label) = label.name ++ (codes "+" ++ decimal label.offset)
label_text None = codes "-"

-- FILE:LINE SYMBOL+OFFSET, as the map has it, with the file's name in the place of its number
unfoldable pub source_text : SourceParts → List ℕ
source_text (statement file line label) =
    file ++ (codes ":" ++ (decimal line ++ (codes " " ++ label_text label)))
source_text guard = codes "- guard"
source_text exit = codes "- exit"
