-- Stacks one after another, each behind what was taken before, and behind all symbols.
use Rattle.std.specs.Prelude.{◌≡◌, ◌⊎◌, ℕ, ◌+◌, ◌≤◌, ◌==◌, ⊤, false, List, [], ◌∷◌, length}
use Rattle.std.specs.Prelude.{Option, Some, None}
use Rattle.cheri_model.specs.declared.memory.TheConstants.{RAM_BASE}
use Rattle.asm_capabilities.specs.Capabilities.{table_length}
use Rattle.asm_layout.specs.Placement.{rank}
use Rattle.asm_layout.specs.declared.chunk.ChunkKind.TheVariants.{Code}
use Rattle.asm_places.specs.Places.{address_in, kind_of}
use Rattle.asm_places.specs.Capabilities.{ObjectsParts, place_of, length_of}
use Rattle.asm_harts.specs.declared.hart.Stack.{Stack}
use Rattle.asm_starts.specs.Starts.{NoteParts}
use Rattle.asm_image.specs.Whole.{AssembledParts}
use Rattle.asm_promises.specs.Given.{objects_in}

-- where memory ends that is taken, with a stack
abbrev pub end_behind : ℕ → Option Stack → ℕ
end_behind end (Some stack) = stack.base + stack.size
end_behind end None = end

-- a stack begins no earlier than memory is taken
abbrev pub IsBehind : ℕ → Option Stack → Type 0
IsBehind end (Some stack) = end ≤ stack.base
IsBehind end None = ⊤

-- so does the stack of each hart, where memory is taken up to the end of the stack before
abbrev pub AreBehind : ℕ → List NoteParts → Type 0
AreBehind end [] = ⊤
AreBehind end (note ∷ notes) =
    IsBehind end note.stack × AreBehind (end_behind end note.stack) notes

-- a symbol is a place, with this address
abbrev pub BeginsAt : ObjectsParts → ℕ → ℕ → Type 0
BeginsAt objects symbol base =
    (place : ℕ × ℕ) × (place_of objects symbol ≡ Some place)
    × (address_in objects.places place.0 place.1 ≡ Some base)

-- the bytes of each symbol, in code or in memory, end before an address
abbrev pub EndsBefore : ObjectsParts → ℕ → Type 0
EndsBefore objects end =
    (symbol base : ℕ) → BeginsAt objects symbol base → base + length_of objects symbol ≤ end

-- symbols of data begin no earlier than an address
abbrev pub DataBeginsAfter : ObjectsParts → ℕ → Type 0
DataBeginsAfter objects start =
    (symbol base : ℕ) (place : ℕ × ℕ) → place_of objects symbol ≡ Some place
    → (rank (kind_of objects.places place.0) == rank Code) ≡ false
    → address_in objects.places place.0 place.1 ≡ Some base → start ≤ base

-- the bytes of symbols of different chunks are apart
abbrev pub AreApart : ObjectsParts → Type 0
AreApart objects =
    (one other base later : ℕ) (place there : ℕ × ℕ) → place_of objects one ≡ Some place
    → place_of objects other ≡ Some there → (place.0 ≡ there.0 → ⊥)
    → address_in objects.places place.0 place.1 ≡ Some base
    → address_in objects.places there.0 there.1 ≡ Some later
    → (base + length_of objects one ≤ later) ⊎ (later + length_of objects other ≤ base)

-- where the capability table ends
abbrev pub table_end : AssembledParts → ℕ
table_end a = RAM_BASE + table_length (length a.linked.table.symbols)

-- a stack begins behind the bytes of each symbol, and behind the capability table
abbrev pub OverlapsNone : AssembledParts → Option Stack → Type 0
OverlapsNone a (Some stack) =
    EndsBefore (objects_in a) stack.base × (table_end a ≤ stack.base)
OverlapsNone a None = ⊤
