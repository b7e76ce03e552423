-- The values of registers that requests set, and where harts begin.
use Rattle.std.specs.Prelude.{ℕ, ◌+◌, ◌%◌, ◌^◌, ◌==◌, if◌then◌else◌, List, codes, Option, Some}
use Rattle.std.specs.Prelude.{None, Result, Ok, Err}
use Rattle.cap_model.specs.values.CapValue.{CapValue}
use Rattle.cap_ops.specs.declared.making.MakeFault.{MakeFault}
use Rattle.grammar.specs.declared.fault.ListingFaultKind.{ListingFaultKind}
use Rattle.grammar.specs.declared.capability.CapParts.{CapParts}
use Rattle.grammar.specs.Capability as listed
use Rattle.asm_tokens.specs.declared.fault.AsmFaultKind.{AsmFaultKind}
use Rattle.asm_tokens.specs.declared.fault.AsmFaultKind.TheVariants as faults
use Rattle.asm_values.specs.declared.values.Location.{Location}
use Rattle.asm_values.specs.declared.values.Value.{Value}
use Rattle.asm_values.specs.declared.values.Value.TheVariants.{Number, At}
use Rattle.asm_capabilities.specs.Capabilities.{pcc_at, table_of}
use Rattle.asm_layout.specs.declared.chunk.ChunkKind.TheVariants as kinds
use Rattle.asm_layout.specs.Placement.{rank}
use Rattle.asm_places.specs.Places.{kind_of, address_of}
use Rattle.asm_places.specs.Capabilities.{ObjectsParts, objects_parts, capability_of}
use Rattle.asm_requests.specs.Values.{HeldParts, symbol, table, written}
use Rattle.asm_starts.specs.declared.values.Entry.{Entry}
use Rattle.asm_starts.specs.declared.values.Scene.{Scene}
use Rattle.asm_starts.specs.Known.{KnownParts, known_parts, found}

-- a program that is laid out: its objects, its symbols by their names, the entries of the
-- capability table, and the address of the exit
pub record SceneParts : Type 0 where
  pub objects : ObjectsParts
  pub known : KnownParts
  pub entries : ℕ
  pub exit : Option ℕ

abbrev pub scene_parts : Scene → SceneParts
scene_parts scene =
    record {
      objects = objects_parts scene.objects;
      known = known_parts scene.known;
      entries = scene.entries;
      exit = scene.exit;
    }

-- a symbol, and the address that it is worth
abbrev pub entry_parts : Entry → List ℕ × ℕ
entry_parts entry = (entry.name.now, entry.addr)

-- an answer whose good value is seen by a view
abbrev pub on_ok : {X Y E : Type 0} → (X → Y) → Result X E → Result Y E
on_ok view (Ok x) = Ok (view x)
on_ok view (Err fault) = Err fault

-- ---- places

-- a place and so many bytes more
abbrev pub moved : Location → ℕ → Location
moved location offset = record location { offset = (location.offset + offset) % 2 ^ 64 }

-- a place in a chunk that is kept
abbrev pub kept_place : SceneParts → Option Value → Option Location
kept_place scene (Some (At location)) =
    if rank (kind_of scene.objects.places location.chunk) == rank kinds.Dropped then None
    else Some location
kept_place scene (Some (Number n)) = None
kept_place scene None = None

unfoldable pub place_named : SceneParts → List ℕ → Option Location
place_named scene name = kept_place scene (found scene.known name)

abbrev pub if_placed : Result ℕ AsmFaultKind → Option ℕ
if_placed (Ok address) = Some address
if_placed (Err fault) = None

-- the address of a value that is a place in code
abbrev pub code_at : SceneParts → Value → Option ℕ
code_at scene (At location) =
    if rank (kind_of scene.objects.places location.chunk) == rank kinds.Code
    then if_placed (address_of scene.objects.places (At location))
    else None
code_at scene (Number n) = None

abbrev pub code_or_none : SceneParts → Option Value → Option ℕ
code_or_none scene (Some value) = code_at scene value
code_or_none scene None = None

unfoldable pub code_named : SceneParts → List ℕ → Option ℕ
code_named scene name = code_or_none scene (found scene.known name)

-- ---- where a hart begins

abbrev pub entry_or_none : List ℕ → Option ℕ → Option (List ℕ × ℕ)
entry_or_none name (Some address) = Some (name, address)
entry_or_none name None = None

unfoldable pub entry_named : SceneParts → List ℕ → Option (List ℕ × ℕ)
entry_named scene name = entry_or_none name (code_named scene name)

abbrev pub if_made : List ℕ × ℕ → Result CapValue MakeFault → Result (List ℕ × ℕ) AsmFaultKind
if_made entry (Ok value) = Ok entry
if_made entry (Err refusal) = Err faults.Capability

abbrev pub entry_made : SceneParts → Option (List ℕ × ℕ) → Result (List ℕ × ℕ) AsmFaultKind
entry_made scene (Some entry) = if_made entry (pcc_at scene.objects.reach entry.1)
entry_made scene None = Err faults.Hart

-- the symbol in code at which a request lets a hart begin
unfoldable pub entry_at : SceneParts → List ℕ → Result (List ℕ × ℕ) AsmFaultKind
entry_at scene name = entry_made scene (entry_named scene name)

abbrev pub first_entry : Option (List ℕ × ℕ) → Option (List ℕ × ℕ) → Option (List ℕ × ℕ)
first_entry (Some entry) later = Some entry
first_entry None later = later

-- `_start`, else `main`, if that is in code
unfoldable pub default_entry : SceneParts → Option (List ℕ × ℕ)
default_entry scene =
    first_entry (entry_named scene (codes "_start")) (entry_named scene (codes "main"))

-- ---- capabilities

abbrev pub made_or : Result CapValue MakeFault → Result CapValue AsmFaultKind
made_or (Ok value) = Ok value
made_or (Err refusal) = Err faults.Capability

-- a capability that can't be made, whatever the reason
abbrev pub capability_or : Result CapValue AsmFaultKind → Result CapValue AsmFaultKind
capability_or (Ok value) = Ok value
capability_or (Err fault) = Err faults.Capability

abbrev pub listed_or : Result CapValue ListingFaultKind → Result CapValue AsmFaultKind
listed_or (Ok value) = Ok value
listed_or (Err fault) = Err faults.Capability

abbrev pub moved_value : SceneParts → ℕ → Option Location → Result CapValue AsmFaultKind
moved_value scene offset (Some location) =
    capability_or (capability_of scene.objects (At (moved location offset)))
moved_value scene offset None = Err faults.Hart

-- the capability of a symbol, moved by so many bytes
unfoldable pub symbol_value : SceneParts → List ℕ → ℕ → Result CapValue AsmFaultKind
symbol_value scene name offset = moved_value scene offset (place_named scene name)

-- the capability table
unfoldable pub table_value : SceneParts → Result CapValue AsmFaultKind
table_value scene = if scene.entries == 0 then Err faults.Hart else made_or (table_of scene.entries)

-- the capability that is written out
abbrev pub written_or : CapParts → Result CapValue AsmFaultKind
written_or parts = listed_or (listed.capability_of parts)

-- what a capability register is to hold
unfoldable pub held_value : SceneParts → HeldParts → Result CapValue AsmFaultKind
held_value scene (symbol name offset) = symbol_value scene name offset
held_value scene table = table_value scene
held_value scene (written parts) = written_or parts
