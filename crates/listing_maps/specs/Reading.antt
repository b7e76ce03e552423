-- What a text means as the map of an image's program.
use Rattle.std.specs.Prelude.{ℕ, List, length, Result}
use Rattle.asm_map_reader.specs.declared.draft.Counts.{Counts}
use Rattle.asm_map_reader.specs.Reading.{map_meaning}
use Rattle.asm_map_reader.specs.Sources.{SourceParts}
use Rattle.cheri_model.specs.runs.Image.{ImageParts}

-- what the map of an image's program has to have
abbrev pub counts_of : ImageParts → Counts
counts_of image = record { instructions = length image.program; harts = length image.harts }

-- where the program's instructions come from, or the line that is wrong
abbrev pub sources_of : ImageParts → List ℕ → Result (List SourceParts) ℕ
sources_of image text = map_meaning (counts_of image) text
