-- Chunks one after another, each at the next multiple of its alignment.
use Rattle.std.specs.Prelude.{ℕ, ◌+◌, ◌-◌, ◌%◌, ◌^◌, ◌==◌, Bool, true, false, ◌&&◌, max}
use Rattle.std.specs.Prelude.{if◌then◌else◌, List, fold, nat_lt, length, slice_index_or, slice_set}
use Rattle.asm_layout.specs.declared.chunk.Chunk.{Chunk}
use Rattle.asm_layout.specs.declared.chunk.ChunkKind.{ChunkKind}
use Rattle.asm_layout.specs.declared.chunk.ChunkKind.TheVariants as kinds
use Rattle.asm_layout.specs.declared.placement.Placement.{Placement}

-- how many bytes are between an address and the next multiple of a unit
abbrev pub padding : ℕ → ℕ → ℕ
padding addr unit = if addr % unit == 0 then 0 else unit - addr % unit

abbrev pub next_multiple : ℕ → ℕ → ℕ
next_multiple addr unit = (addr + padding addr unit) % 2 ^ 64

-- the order of kinds: code, and then memory
abbrev pub rank : ChunkKind → ℕ
rank kinds.Code = 0
rank kinds.ReadOnly = 1
rank kinds.ReadWrite = 2
rank kinds.Zeros = 3
rank kinds.Common = 4
rank kinds.Dropped = 5

-- what a chunk's address is a multiple of: code without an instruction takes no place
unfoldable pub alignment_of : Chunk → ℕ
alignment_of chunk =
    if (rank chunk.kind == 0) && (chunk.size == 0) then 1 else max chunk.align 1

-- where chunks begin, by their numbers, and where the next one may
pub record PlacementParts : Type 0 where
  pub addresses : List ℕ
  pub end : ℕ

abbrev pub parts_of : Placement → PlacementParts
parts_of placement = record { addresses = placement.addresses.items; end = placement.end }

-- where the next chunk begins
abbrev pub start_of : PlacementParts → Chunk → ℕ
start_of placement chunk = next_multiple placement.end (alignment_of chunk)

-- one more chunk, by its number
unfoldable pub placed : PlacementParts → ℕ → Chunk → PlacementParts
placed placement number chunk =
    record {
      addresses = slice_set placement.addresses number (start_of placement chunk);
      end = (start_of placement chunk + chunk.size) % 2 ^ 64;
    }

-- the chunk of this number, where there is one of this kind
abbrev pub no_chunk : Chunk
no_chunk = record { kind = kinds.Dropped; size = 0; align = 0 }

unfoldable pub placed_if : ChunkKind → List Chunk → PlacementParts → ℕ → PlacementParts
placed_if kind chunks placement number =
    if nat_lt number (length chunks)
    && (rank (slice_index_or chunks number no_chunk).kind == rank kind)
    then placed placement number (slice_index_or chunks number no_chunk)
    else placement

-- the chunks of one kind, in the order of these numbers
abbrev pub all_placed : ChunkKind → List Chunk → PlacementParts → List ℕ → PlacementParts
all_placed kind chunks placement order = fold (placed_if kind chunks) placement order
