-- Files as one program.
use Rattle.std.specs.Prelude.{ℕ, List, [], map, slice_get, slice_index_or, Vec}
use Rattle.std.specs.Borrow.{Bor}
use Rattle.std.specs.Prelude.{Option, Some, None}
use Rattle.std.specs.Global.{Global}
use Rattle.asm_tokens.specs.Tokens.{TokenParts, token_parts}
use Rattle.asm_layout.specs.declared.chunk.Chunk.{Chunk}
use Rattle.asm_statements.specs.Statements.{StatementParts, statement_parts}
use Rattle.asm_symbols.specs.declared.locals.Local.{Local}
use Rattle.asm_symbols.specs.Definitions.{DefinitionParts, definition_parts}
use Rattle.asm_symbols.specs.Names.{no_names, names_of}
use Rattle.asm_chunks.specs.Order.{row_items}
use Rattle.asm_files.specs.declared.program.File.{File}
use Rattle.asm_files.specs.declared.program.Made.{Made}
use Rattle.asm_files.specs.declared.program.Program.{Program}
use Rattle.asm_files.specs.declared.stand.Stand.{Stand}
use Rattle.asm_files.specs.Requests.{RequestsParts, requests_parts}

-- the bytes of a text
abbrev pub text_of : Bor (List ℕ) → List ℕ
text_of text = text.now

-- a file: its tokens and its statements
pub record FileParts : Type 0 where
  pub tokens : List TokenParts
  pub statements : List StatementParts

abbrev pub file_parts : File → FileParts
file_parts file =
    record {
      tokens = map token_parts file.tokens.items;
      statements = map statement_parts file.statements.items;
    }

-- what the statements of files make: of each file where its statements stand, its own names, its
-- local labels, the names that it wants seen, and its chunks by sections; and the chunks and
-- symbols of all files
pub record MadeParts : Type 0 where
  pub stands : List (List Stand)
  pub own : List (List ℕ → Option ℕ)
  pub locals : List (List Local)
  pub wanted : List (List ℕ → Option ℕ)
  pub rows : List (List (Option ℕ))
  pub chunks : List Chunk
  pub symbols : List DefinitionParts

abbrev pub stand_items : Vec Stand Global → List Stand
stand_items stands = stands.items

abbrev pub local_items : Vec Local Global → List Local
local_items locals = locals.items

abbrev pub made_parts : Made → MadeParts
made_parts made =
    record {
      stands = map stand_items made.stands.items;
      own = map names_of made.own.items;
      locals = map local_items made.locals.items;
      wanted = map names_of made.wanted.items;
      rows = map row_items made.rows.items;
      chunks = made.chunks.items;
      symbols = map definition_parts made.symbols.items;
    }

-- files, their requests, how many sections they have, and what they make
pub record ProgramParts : Type 0 where
  pub files : List FileParts
  pub requests : RequestsParts
  pub sections : ℕ
  pub made : MadeParts

abbrev pub program_parts : Program → ProgramParts
program_parts program =
    record {
      files = map file_parts program.files.items;
      requests = requests_parts program.requests;
      sections = program.sections;
      made = made_parts program.made;
    }

-- ---- files and statements by their numbers

abbrev pub tokens_or_none : Option FileParts → List TokenParts
tokens_or_none (Some file) = file.tokens
tokens_or_none None = []

abbrev pub statements_or_none : Option FileParts → List StatementParts
statements_or_none (Some file) = file.statements
statements_or_none None = []

unfoldable pub tokens_in : ProgramParts → ℕ → List TokenParts
tokens_in program file = tokens_or_none (slice_get program.files file)

unfoldable pub statement_at : ProgramParts → ℕ → ℕ → Option StatementParts
statement_at program file number =
    slice_get (statements_or_none (slice_get program.files file)) number

abbrev pub no_stand : Stand
no_stand = record { chunk = 0; offset = 0; end = 0; locals = 0; value = 0 }

unfoldable pub stand_in : ProgramParts → ℕ → ℕ → Stand
stand_in program file number =
    slice_index_or (slice_index_or program.made.stands file []) number no_stand

unfoldable pub locals_in : ProgramParts → ℕ → List Local
locals_in program file = slice_index_or program.made.locals file []

unfoldable pub own_in : ProgramParts → ℕ → List ℕ → Option ℕ
own_in program file = slice_index_or program.made.own file no_names
