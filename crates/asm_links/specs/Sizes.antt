-- Which statement says the bytes of a symbol.
use Rattle.std.specs.Prelude.{ℕ, zero, suc, ◌+◌, List, [], ◌∷◌, length, slice_get, slice_set}
use Rattle.std.specs.Prelude.{replicate}
use Rattle.std.specs.Prelude.{Option, Some, None}
use Rattle.asm_tokens.specs.Tokens.{TokenParts}
use Rattle.asm_expressions.specs.Tokens.{text_at}
use Rattle.asm_statements.specs.declared.statement.Body.{Body}
use Rattle.asm_statements.specs.declared.statement.Body.TheVariants as bodies
use Rattle.asm_statements.specs.Statements.{StatementParts}
use Rattle.asm_files.specs.Programs.{FileParts, ProgramParts}

-- the symbol of its file whose bytes a statement says
abbrev pub sized_by : (List ℕ → Option ℕ) → List TokenParts → Body → Option ℕ
sized_by own tokens (bodies.Size at) = own (text_at tokens at)
sized_by own tokens _ = None

unfoldable pub sized_symbol : (List ℕ → Option ℕ) → List TokenParts → StatementParts → Option ℕ
sized_symbol own tokens statement = sized_by own tokens statement.body

-- the first statement says it
abbrev pub put_in : ℕ → ℕ → List (Option ℕ) → Option (Option ℕ) → List (Option ℕ)
put_in symbol number sizes (Some None) = slice_set sizes symbol (Some number)
put_in symbol number sizes _ = sizes

unfoldable pub size_put : Option ℕ → ℕ → List (Option ℕ) → List (Option ℕ)
size_put (Some symbol) number sizes = put_in symbol number sizes (slice_get sizes symbol)
size_put None number sizes = sizes

-- the statements of a file from a number on
unfoldable pub sizes_from : (List ℕ → Option ℕ) → List TokenParts → ℕ → List StatementParts
    → List (Option ℕ) → List (Option ℕ)
sizes_from own tokens number [] sizes = sizes
sizes_from own tokens number (statement ∷ statements) sizes =
    sizes_from own tokens (number + 1) statements
    (size_put (sized_symbol own tokens statement) number sizes)

unfoldable pub file_sizes : (List ℕ → Option ℕ) → FileParts → List (Option ℕ) → List (Option ℕ)
file_sizes own file sizes = sizes_from own file.tokens 0 file.statements sizes

-- those of the file of a number, with its own names
abbrev pub sizes_by : Option (List ℕ → Option ℕ) → Option FileParts → List (Option ℕ)
    → List (Option ℕ)
sizes_by (Some own) (Some file) sizes = file_sizes own file sizes
sizes_by (Some own) None sizes = sizes
sizes_by None file sizes = sizes

unfoldable pub numbered_sizes : ProgramParts → ℕ → List (Option ℕ) → List (Option ℕ)
numbered_sizes program number sizes =
    sizes_by (slice_get program.made.own number) (slice_get program.files number) sizes

-- those of the first files
unfoldable pub files_sizes : ProgramParts → ℕ → List (Option ℕ) → List (Option ℕ)
files_sizes program zero sizes = sizes
files_sizes program (suc count) sizes =
    numbered_sizes program count (files_sizes program count sizes)

-- of each symbol the first statement in its file that says its bytes
abbrev pub no_sizes : ProgramParts → List (Option ℕ)
no_sizes program = replicate (length program.made.symbols) None

unfoldable pub first_sizes : ProgramParts → List (Option ℕ)
first_sizes program = files_sizes program (length program.files) (no_sizes program)
