-- What conditions beside a listing may name.
use Rattle.std.specs.Prelude.{ℕ, List, map, Option, Some, None, option_map}
use Rattle.std.specs.Borrow.{Bor}
use Rattle.asm_map_reader.specs.declared.source.Source.{Source}
use Rattle.asm_map_reader.specs.Sources.{SourceParts, source_parts}
use Rattle.grammar.specs.declared.labels.LabelLine.{LabelLine}
use Rattle.grammar.specs.LabelMap.{first_line, label_parts}
use Rattle.grammar.specs.Labels.{LabelParts}
use Rattle.listing_maps.specs.declared.names.Names.{Names}
use Rattle.listing_maps.specs.Symbols.{symbol_at}

-- the instruction at which a symbol is, where a map is there
abbrev pub symbol_in : List ℕ → Option (List SourceParts) → Option ℕ
symbol_in name None = None
symbol_in name (Some sources) = symbol_at name sources

-- a symbol is before this instruction, on no line of the listing
abbrev pub symbol_line : ℕ → LabelLine
symbol_line number = record { line = 0; instructions = number }

-- the labels of a listing, and where a map is there, beside them the symbols of other names
unfoldable pub named : LabelParts → Option (List SourceParts) → LabelParts
named labels None = labels
named labels (Some sources) = record {
  label = λ name. first_line (labels.label name) (option_map symbol_line (symbol_at name sources));
  instructions = labels.instructions;
}

abbrev pub sources_parts : Bor (List Source) → List SourceParts
sources_parts sources = map source_parts sources.now

abbrev pub names_of : Names → LabelParts
names_of names = named (label_parts names.labels.now) (option_map sources_parts names.sources)
