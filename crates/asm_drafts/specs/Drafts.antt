-- What the statements so far make.
use Rattle.std.specs.Prelude.{◌≡◌, ◌⊎◌, ℕ, ◌==◌, Bool, List, [], ◌∷◌, Option, Some, None, Result}
use Rattle.std.specs.Prelude.{Ok, Err}
use Rattle.asm_tokens.specs.declared.fault.AsmFault.{AsmFault}
use Rattle.asm_tokens.specs.declared.fault.AsmFaultKind.TheVariants as faults
use Rattle.asm_tokens.specs.Faults.{◌>>=◌, no_memory}
use Rattle.asm_tokens.specs.Tokens.{TokenParts}
use Rattle.asm_expressions.specs.Tokens.{fault_at}
use Rattle.asm_layout.specs.declared.chunk.ChunkKind.{ChunkKind}
use Rattle.asm_layout.specs.Placement.{rank}
use Rattle.asm_chunks.specs.declared.fault.ChunkFault.{ChunkFault}
use Rattle.asm_chunks.specs.declared.fault.ChunkFault.TheVariants as chunk_faults
use Rattle.asm_chunks.specs.Chunks.{ChunksParts, chunks_parts, no_chunks, here_of}
use Rattle.asm_chunks.specs.Growth.{grown}
use Rattle.asm_symbols.specs.Definitions.{SymbolsParts, symbols_parts, no_symbols}
use Rattle.asm_symbols.specs.Locals.{LocalsParts, locals_parts, no_locals}
use Rattle.asm_statements.specs.declared.statement.Operand.{Operand}
use Rattle.asm_drafts.specs.declared.draft.Draft.{Draft}

-- the chunks and symbols of all files, and the local labels of the file that is read
pub record DraftParts : Type 0 where
  pub chunks : ChunksParts
  pub symbols : SymbolsParts
  pub locals : LocalsParts

abbrev pub draft_parts : Draft → DraftParts
draft_parts d =
    record {
      chunks = chunks_parts d.chunks;
      symbols = symbols_parts d.symbols;
      locals = locals_parts d.locals;
    }

-- before the first file
abbrev pub new_draft : DraftParts
new_draft = record { chunks = no_chunks; symbols = no_symbols; locals = no_locals }

abbrev pub with_chunks : DraftParts → ChunksParts → DraftParts
with_chunks parts chunks = record parts { chunks = chunks }

abbrev pub with_symbols : DraftParts → SymbolsParts → DraftParts
with_symbols parts symbols = record parts { symbols = symbols }

abbrev pub with_locals : DraftParts → LocalsParts → DraftParts
with_locals parts locals = record parts { locals = locals }

-- whether the file goes on in a chunk of this kind
unfoldable pub is_here : DraftParts → ChunkKind → Bool
is_here parts kind = rank (here_of parts.chunks).kind == rank kind

-- why a chunk can't have what a statement puts into it
unfoldable pub chunk_fault : List TokenParts → ℕ → ChunkFault → AsmFault
chunk_fault tokens at chunk_faults.Section = fault_at tokens faults.Section at
chunk_fault tokens at chunk_faults.Size = fault_at tokens faults.Size at
chunk_fault tokens at chunk_faults.NoMemory = no_memory

abbrev pub after_chunks : List TokenParts → ℕ → DraftParts → Result ChunksParts ChunkFault
    → Result DraftParts AsmFault
after_chunks tokens at parts (Ok chunks) = Ok (with_chunks parts chunks)
after_chunks tokens at parts (Err fault) = Err (chunk_fault tokens at fault)

-- so many bytes more, or the fault that they are too many, at a token
unfoldable pub grown_at : List TokenParts → ℕ → ℕ → DraftParts → Result DraftParts AsmFault
grown_at tokens at count parts = after_chunks tokens at parts (grown parts.chunks count)

-- the fault of a statement that can't be read to its end
abbrev pub ended : Option AsmFault → Result (Unit {0}) AsmFault
ended (Some fault) = Err fault
ended None = Ok tt

-- an answer by what it should be, with what is then made; or out of memory
abbrev pub Drafts : Result (Unit {0}) AsmFault → DraftParts → Result DraftParts AsmFault → Type 0
Drafts (Ok done) new meaning = meaning ≡ Ok new
Drafts (Err fault) new meaning = (fault ≡ no_memory) ⊎ (meaning ≡ Err fault)

-- a step for each operand, one after another
unfoldable pub each_put : (Operand → DraftParts → Result DraftParts AsmFault) → List Operand
    → DraftParts → Result DraftParts AsmFault
each_put step [] parts = Ok parts
each_put step (operand ∷ operands) parts =
    step operand parts >>= λ next. each_put step operands next
