-- Files of assembly as one program.
use Rattle.std.specs.Prelude.{◌≡◌, ◌⊎◌, ℕ, nat_lt, if◌then◌else◌, List, [], ◌∷◌, ◌++◌, length}
use Rattle.std.specs.Prelude.{Result, Ok, Err}
use Rattle.asm_tokens.specs.declared.fault.AsmFault.{AsmFault}
use Rattle.asm_tokens.specs.declared.fault.AsmFaultKind.TheVariants.{Size}
use Rattle.asm_tokens.specs.Faults.{◌>>=◌, no_memory}
use Rattle.asm_tokens.specs.Tokens.{TokenParts, tokens_of}
use Rattle.asm_statements.specs.Statements.{StatementParts, statements_of}
use Rattle.asm_symbols.specs.Names.{no_names}
use Rattle.asm_symbols.specs.Locals.{no_locals}
use Rattle.asm_chunks.specs.declared.fault.ChunkFault.{ChunkFault}
use Rattle.asm_chunks.specs.Chunks.{ChunksParts, no_chunks}
use Rattle.asm_chunks.specs.Sections.{begun}
use Rattle.asm_drafts.specs.Drafts.{DraftParts, draft_parts}
use Rattle.asm_files.specs.declared.fault.AssemblyFault.{AssemblyFault}
use Rattle.asm_files.specs.declared.files.Reading.{Reading}
use Rattle.asm_files.specs.declared.stand.Stand.{Stand}
use Rattle.asm_files.specs.declared.texts.TheConstants.{MAX_FILE}
use Rattle.asm_files.specs.Faults.{of_file, whole_file}
use Rattle.asm_files.specs.Steps.{each_from}
use Rattle.asm_files.specs.Programs.{FileParts, MadeParts, ProgramParts}
use Rattle.asm_files.specs.Requests.{RequestsParts, no_requests, file_requests}
use Rattle.asm_files.specs.Sections.{SectionsParts, names_in, numbered, entry_of}
use Rattle.asm_files.specs.Stands.{statement_stood}

-- ---- lengths

unfoldable pub length_judged : ℕ → List ℕ → Result (Unit {0}) AssemblyFault
length_judged number text =
    if nat_lt MAX_FILE (length text) then Err (whole_file number Size) else Ok tt

abbrev pub length_step : ℕ → List ℕ → Unit {0} → Result (Unit {0}) AssemblyFault
length_step number text judged = length_judged number text

unfoldable pub lengths_judged : List (List ℕ) → Result (Unit {0}) AssemblyFault
lengths_judged texts = each_from length_step 0 texts tt

-- ---- tokens, statements and requests

abbrev pub file_of : List TokenParts → FileParts
file_of tokens = record { tokens = tokens; statements = statements_of tokens }

-- one more file
unfoldable pub file_read : ℕ → List ℕ → List FileParts → Result (List FileParts) AssemblyFault
file_read number text files =
    of_file number (tokens_of text) >>= λ tokens. Ok (files ++ file_of tokens ∷ [])

unfoldable pub files_of : List (List ℕ) → Result (List FileParts) AssemblyFault
files_of texts = each_from file_read 0 texts []

abbrev pub request_step : ℕ → FileParts → RequestsParts → Result RequestsParts AssemblyFault
request_step number file requests = file_requests number file.tokens requests

unfoldable pub all_requests : List FileParts → Result RequestsParts AssemblyFault
all_requests files = each_from request_step 0 files no_requests

-- the sections that statements of files name
unfoldable pub all_names : List FileParts → List (List ℕ)
all_names [] = []
all_names (file ∷ files) = names_in file.tokens file.statements ++ all_names files

-- ---- what statements make

-- what the statements of a file make, and where those so far stand
pub record ReadingParts : Type 0 where
  pub draft : DraftParts
  pub stands : List Stand

abbrev pub reading_parts : Reading → ReadingParts
reading_parts reading =
    record { draft = draft_parts reading.draft; stands = reading.stands.items }

-- an answer by what it should be, with what is then read; or out of memory
abbrev pub Reads : Result (Unit {0}) AsmFault → ReadingParts → Result ReadingParts AsmFault
    → Type 0
Reads (Ok done) new meaning = meaning ≡ Ok new
Reads (Err fault) new meaning = (fault ≡ no_memory) ⊎ (meaning ≡ Err fault)

-- one more statement
abbrev pub with_stand : ReadingParts → DraftParts × Stand → ReadingParts
with_stand reading next =
    record { draft = next.0; stands = reading.stands ++ next.1 ∷ [] }

unfoldable pub statement_step : SectionsParts → List TokenParts → ℕ → StatementParts → ReadingParts
    → Result ReadingParts AsmFault
statement_step sections tokens number statement reading =
    statement_stood tokens reading.draft number statement (entry_of sections tokens statement)
    >>= λ next. Ok (with_stand reading next)

unfoldable pub statements_put : SectionsParts → List TokenParts → List StatementParts
    → ReadingParts → Result ReadingParts AsmFault
statements_put sections tokens statements reading =
    each_from (statement_step sections tokens) 0 statements reading

-- a file begins in its section of code, with the chunks and symbols of the files before
abbrev pub chunks_or_none : Result ChunksParts ChunkFault → ChunksParts
chunks_or_none (Ok chunks) = chunks
chunks_or_none (Err fault) = no_chunks

abbrev pub begun_draft : ℕ → ℕ → MadeParts → DraftParts
begun_draft count number made =
    record {
      chunks = chunks_or_none (begun (record no_chunks { chunks = made.chunks }) count 0);
      symbols =
          record {
            definitions = made.symbols;
            own = no_names;
            wanted = no_names;
            file = number;
          };
      locals = no_locals;
    }

-- the chunks and symbols of the files before are then its own
abbrev pub taken_from : MadeParts → MadeParts
taken_from made = record made { chunks = []; symbols = [] }

unfoldable pub file_begun : ℕ → ℕ → MadeParts → ReadingParts
file_begun count number made = record { draft = begun_draft count number made; stands = [] }

-- what it made, once it is at its end
unfoldable pub file_ended : MadeParts → ReadingParts → MadeParts
file_ended made reading =
    record {
      stands = made.stands ++ reading.stands ∷ [];
      own = made.own ++ reading.draft.symbols.own ∷ [];
      locals = made.locals ++ reading.draft.locals.places ∷ [];
      wanted = made.wanted ++ reading.draft.symbols.wanted ∷ [];
      rows = made.rows ++ reading.draft.chunks.own ∷ [];
      chunks = reading.draft.chunks.chunks;
      symbols = reading.draft.symbols.definitions;
    }

unfoldable pub file_put : SectionsParts → ℕ → FileParts → MadeParts → Result MadeParts AssemblyFault
file_put sections number file made =
    of_file number
    (statements_put sections file.tokens file.statements (file_begun sections.count number made))
    >>= λ reading. Ok (file_ended made reading)

abbrev pub no_made : MadeParts
no_made =
    record {
      stands = [];
      own = [];
      locals = [];
      wanted = [];
      rows = [];
      chunks = [];
      symbols = [];
    }

unfoldable pub made_of : SectionsParts → List FileParts → Result MadeParts AssemblyFault
made_of sections files = each_from (file_put sections) 0 files no_made

-- ---- the program

abbrev pub program_from : List FileParts → RequestsParts → ℕ → MadeParts → ProgramParts
program_from files requests sections made =
    record { files = files; requests = requests; sections = sections; made = made }

-- the program that files are, or the first fault: of lengths, of bytes, of requests, of statements
unfoldable pub program_of : List (List ℕ) → Result ProgramParts AssemblyFault
program_of texts = do
  judged ← lengths_judged texts
  files ← files_of texts
  requests ← all_requests files
  made ← made_of (numbered (all_names files)) files
  Ok (program_from files requests (numbered (all_names files)).count made)
