-- What a reader keeps of a map's lines, as their definition has it.
use Rattle.std.specs.Prelude.{◌≡◌, ℕ, List, map, Result, Ok, Err, ⊤, Vec}
use Rattle.std.specs.Global.{Global}
use Rattle.asm_map_reader.specs.declared.fault.MapFault.{MapFault}
use Rattle.asm_map_reader.specs.declared.fault.MapFault.TheVariants.{NoMemory, Line}
use Rattle.asm_map_reader.specs.declared.source.Source.{Source}
use Rattle.asm_map_reader.specs.declared.draft.Draft.{Draft}
use Rattle.asm_map_reader.specs.Lines.{name_parts}
use Rattle.asm_map_reader.specs.Sources.{SourceParts, source_parts}
use Rattle.asm_map_reader.specs.Reading.{DraftParts}

abbrev pub draft_parts : Draft → DraftParts
draft_parts draft = record {
  stage = draft.stage;
  files = map name_parts draft.files.items;
  sources = map source_parts draft.sources.items;
  has_entries = draft.has_entries;
  harts = draft.harts;
}

-- a text was read as it means, or its first wrong line was found, or out of memory
abbrev pub Gives : Result (Vec Source Global) MapFault → Result (List SourceParts) ℕ → Type 0
Gives (Ok sources) meaning = meaning ≡ Ok (map source_parts sources.items)
Gives (Err NoMemory) meaning = ⊤
Gives (Err (Line number)) meaning = meaning ≡ Err number
