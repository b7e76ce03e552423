-- Where statements stand.
use Rattle.std.specs.Prelude.{◌≡◌, ◌⊎◌, ℕ, List, length, slice_get}
use Rattle.std.specs.Prelude.{Option, Some, None, Result, Ok, Err}
use Rattle.asm_tokens.specs.declared.fault.AsmFault.{AsmFault}
use Rattle.asm_tokens.specs.Faults.{◌>>=◌, no_memory}
use Rattle.asm_tokens.specs.Tokens.{TokenParts}
use Rattle.asm_layout.specs.declared.chunk.Chunk.{Chunk}
use Rattle.asm_statements.specs.Statements.{StatementParts}
use Rattle.asm_chunks.specs.Chunks.{here_of}
use Rattle.asm_drafts.specs.declared.sections.Entry.{Entry}
use Rattle.asm_drafts.specs.Drafts.{DraftParts}
use Rattle.asm_drafts.specs.Kept.{kept_number}
use Rattle.asm_drafts.specs.Labels.{labels_put}
use Rattle.asm_drafts.specs.Statements.{body_put}
use Rattle.asm_files.specs.declared.stand.Stand.{Stand}

-- where the file is, before the statement's body
unfoldable pub opening_of : DraftParts → ℕ → Stand
opening_of parts value =
    record {
      chunk = parts.chunks.here;
      offset = (here_of parts.chunks).size;
      end = (here_of parts.chunks).size;
      locals = length parts.locals.places;
      value = value;
    }

abbrev pub size_or_none : Option Chunk → ℕ
size_or_none (Some chunk) = chunk.size
size_or_none None = 0

-- and what the same chunk has behind it
unfoldable pub closing_of : DraftParts → Stand → Stand
closing_of parts stand =
    record {
      chunk = stand.chunk;
      offset = stand.offset;
      end = size_or_none (slice_get parts.chunks.chunks stand.chunk);
      locals = stand.locals;
      value = stand.value;
    }

-- what a statement makes, and where it stands: after its labels
unfoldable pub statement_stood : List TokenParts → DraftParts → ℕ → StatementParts → Entry
    → Result (DraftParts × Stand) AsmFault
statement_stood tokens parts number s entry = do
  labelled ← labels_put tokens s.first s.labels parts
  next ← body_put tokens labelled number s entry
  Ok (next, closing_of next (opening_of labelled (kept_number tokens labelled s)))

-- an answer by what it should be, with what is then made; or out of memory
abbrev pub Stands : Result Stand AsmFault → DraftParts → Result (DraftParts × Stand) AsmFault
    → Type 0
Stands (Ok stand) new meaning = meaning ≡ Ok (new, stand)
Stands (Err fault) new meaning = (fault ≡ no_memory) ⊎ (meaning ≡ Err fault)
