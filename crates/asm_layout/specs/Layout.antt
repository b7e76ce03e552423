-- The layout of a program: its code, then in memory the capability table and the chunks of data.
use Rattle.std.specs.Prelude.{ℕ, ◌+◌, ◌%◌, ◌^◌, max, List, length, replicate}
use Rattle.cheri_model.specs.declared.code.TheConstants.{CODE_BASE}
use Rattle.cheri_model.specs.declared.memory.TheConstants.{RAM_BASE}
use Rattle.asm_capabilities.specs.Capabilities.{table_length}
use Rattle.asm_layout.specs.declared.chunk.Chunk.{Chunk}
use Rattle.asm_layout.specs.declared.chunk.ChunkKind.{ChunkKind}
use Rattle.asm_layout.specs.declared.chunk.ChunkKind.TheVariants as kinds
use Rattle.asm_layout.specs.declared.layout.Layout.{Layout}
use Rattle.asm_layout.specs.declared.layout.TheConstants.{PAGE}
use Rattle.asm_layout.specs.Placement.{PlacementParts, all_placed, padding}

-- where each chunk begins, where code ends, and where memory ends that is taken
pub record LayoutParts : Type 0 where
  pub addresses : List ℕ
  pub code_end : ℕ
  pub memory_end : ℕ

abbrev pub layout_parts : Layout → LayoutParts
layout_parts layout =
    record {
      addresses = layout.addresses.items;
      code_end = layout.code_end;
      memory_end = layout.memory_end;
    }

-- before the first chunk, at the beginning of code
abbrev pub opening : ℕ → PlacementParts
opening count = record { addresses = replicate count 0; end = CODE_BASE }

-- behind code, at the end of the capability table
abbrev pub at_memory : ℕ → PlacementParts → PlacementParts
at_memory entries placement =
    record {
      addresses = placement.addresses;
      end = (RAM_BASE + table_length entries) % 2 ^ 64;
    }

unfoldable pub code_placed : List Chunk → List ℕ → PlacementParts
code_placed chunks order = all_placed kinds.Code chunks (opening (length chunks)) order

-- what is only read, then data, then zeros, then common symbols
unfoldable pub memory_placed : List Chunk → List ℕ → PlacementParts → PlacementParts
memory_placed chunks order placement =
    let constants = all_placed kinds.ReadOnly chunks placement order in
    let variables = all_placed kinds.ReadWrite chunks constants order in
    let zeros = all_placed kinds.Zeros chunks variables order in
    all_placed kinds.Common chunks zeros order

unfoldable pub layout_of : List Chunk → List ℕ → ℕ → LayoutParts
layout_of chunks order entries =
    let code = code_placed chunks order in
    let memory = memory_placed chunks order (at_memory entries code) in
    record { addresses = memory.addresses; code_end = code.end; memory_end = memory.end }

-- the least size of memory that holds so many bytes, where no request says one
unfoldable pub memory_size : ℕ → ℕ
memory_size bytes = max ((bytes + padding bytes PAGE) % 2 ^ 64) PAGE
