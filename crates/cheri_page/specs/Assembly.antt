-- What is told of a file of assembly: its listing, or its map.
use Rattle.std.specs.Prelude.{◌≡◌, ◌⊎◌, ℕ, List, [], ◌∷◌, map, Option, Some, None, Result, Ok, Err}
use Rattle.canonical.specs.Canon.{canon}
use Rattle.asm_files.specs.declared.fault.AssemblyFault.{AssemblyFault}
use Rattle.asm_pictures.specs.Asked.{requested}
use Rattle.asm_image.specs.Whole.{AssembledParts, assembly_meaning, map_of}
use Rattle.asm_mapping.specs.Lines.{line_parts}
use Rattle.asm_maps.specs.Maps.{map_text}
use Rattle.asm_maps.specs.declared.line.MapLine.{MapLine}
use Rattle.asm_map_reader.specs.Words.{text_of}
use Rattle.cheri_page.specs.declared.fault.Fault.{Fault}
use Rattle.cheri_page.specs.declared.fault.Fault.TheVariants.{BadName}
use Rattle.cheri_page.specs.Answers.{Told, IsTold, out_of_memory}
use Rattle.cheri_page.specs.Faults.{assembly_fault}

-- what a file of assembly means, with the harts that it requests
abbrev pub meaning_of : List ℕ → Result AssembledParts AssemblyFault
meaning_of assembly = assembly_meaning (assembly ∷ []) requested

-- nothing but a fault
abbrev pub refused : Fault → Told
refused fault = record { text = []; fault = Some fault }

-- the canonical listing of the image, or the fault of the assembly
abbrev pub told_of_assembled : Result AssembledParts AssemblyFault → Told
told_of_assembled (Ok parts) = record { text = canon parts.image; fault = None }
told_of_assembled (Err fault) = refused (assembly_fault fault)

abbrev pub IsListingTold : List ℕ → Told → Type 0
IsListingTold assembly told = IsTold (told_of_assembled (meaning_of assembly)) told

-- this is the text of the map of a program, which is one file of this name
abbrev pub IsMapOf : AssembledParts → List ℕ → List ℕ → Type 0
IsMapOf parts name text =
    (lines : List MapLine)
    × (map line_parts lines ≡ map_of parts (name ∷ []))
    × (text ≡ map_text lines)

-- this is the text of the map of what a file of this name means
abbrev pub IsMapText : Result AssembledParts AssemblyFault → List ℕ → List ℕ → Type 0
IsMapText (Ok parts) name text = IsMapOf parts name text
IsMapText (Err fault) name text = ⊥

-- the map is told, or the fault of the assembly
abbrev pub IsMeantMap : Result AssembledParts AssemblyFault → List ℕ → Told → Type 0
IsMeantMap (Ok parts) name told = (told.fault ≡ None) × IsMapOf parts name told.text
IsMeantMap (Err fault) name told = told ≡ refused (assembly_fault fault)

-- bytes that are no text are no name
abbrev pub IsNamedMap : List ℕ → Option (List ℕ) → Told → Type 0
IsNamedMap assembly (Some name) told = IsMeantMap (meaning_of assembly) name told
IsNamedMap assembly None told = told ≡ refused BadName

abbrev pub IsMapTold : List ℕ → List ℕ → Told → Type 0
IsMapTold assembly name told = (told ≡ out_of_memory) ⊎ IsNamedMap assembly (text_of name) told
