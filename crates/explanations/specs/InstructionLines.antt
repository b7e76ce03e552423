-- Where the instructions of a listing are.
use Rattle.std.specs.Prelude.{ℕ, nat_lt, if◌then◌else◌, List, length, slice_index, slice_index_or}
use Rattle.std.specs.Prelude.{[], map, Option, Some, None, option_map}
use Rattle.std.specs.Borrow.{Bor}
use Rattle.asm_map_reader.specs.declared.source.Source.{Source}
use Rattle.asm_map_reader.specs.Sources.{source_parts, source_text}
use Rattle.listings.specs.LineNumbers.{instruction_lines_of}

-- on which lines of a listing they are, and what a map says that they come from, if there is one
pub record LineParts : Type 0 where
  pub numbers : List ℕ
  pub sources : Option (List (List ℕ))

-- what a map says of an instruction, as it is shown
abbrev pub shown_source : Source → List ℕ
shown_source source = source_text (source_parts source)

abbrev pub shown_sources : Bor (List Source) → List (List ℕ)
shown_sources sources = map shown_source sources.now

-- the line of an instruction, by the instruction's number
abbrev pub line_of : LineParts → ℕ → ℕ
line_of lines number = slice_index lines.numbers number

-- what it comes from, where a map says so
abbrev pub source_in : Option (List (List ℕ)) → ℕ → Option (List ℕ)
source_in (Some sources) number =
    if nat_lt number (length sources) then Some (slice_index_or sources number []) else None
source_in None number = None

unfoldable pub source_of : LineParts → ℕ → Option (List ℕ)
source_of lines number = source_in lines.sources number

-- on these lines, where no map is there
abbrev pub unmapped : List ℕ → LineParts
unmapped numbers = record { numbers = numbers; sources = None }

-- those of a listing, and of what a map says
abbrev pub mapped_lines : Option (List (List ℕ)) → List ℕ → LineParts
mapped_lines sources listing =
    record { numbers = instruction_lines_of listing; sources = sources }
