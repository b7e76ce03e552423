-- Labels stand where the statement stands that they are of.
use Rattle.std.specs.Prelude.{◌≡◌, ℕ, zero, suc, ◌+◌, Bool, true, false, List, [], ◌∷◌, ◌++◌}
use Rattle.std.specs.Prelude.{take, drop, slice_get, slice_index_or, Some}
use Rattle.std.specs.List.{All}
use Rattle.asm_tokens.specs.declared.token.TokenKind.{TokenKind}
use Rattle.asm_tokens.specs.declared.token.TokenKind.TheVariants.{Number}
use Rattle.asm_tokens.specs.Tokens.{TokenParts}
use Rattle.asm_expressions.specs.Tokens.{kind_at}
use Rattle.asm_symbols.specs.declared.definitions.Meaning.TheVariants.{Place}
use Rattle.asm_symbols.specs.declared.locals.Local.{Local}
use Rattle.asm_symbols.specs.Definitions.{DefinitionParts}
use Rattle.asm_statements.specs.Statements.{StatementParts}
use Rattle.asm_drafts.specs.Drafts.{DraftParts}
use Rattle.asm_files.specs.declared.stand.Stand.{Stand}
use Rattle.asm_files.specs.Programs.{FileParts, ProgramParts, own_in}

-- the symbols that labels add are places where a statement stands
pub record AreThere (stand : Stand) (before after : DraftParts) : Type 0 where
  pub more : List DefinitionParts
  pub added : before.symbols.definitions ++ more ≡ after.symbols.definitions
  pub places : All (λ d. d.meaning ≡ Place stand.chunk stand.offset) more

-- ---- local labels

-- a label of a statement that stands here, if it is a number
abbrev pub label_here : Stand → ℕ → TokenKind → List Local
label_here stand at (Number n) =
    record { chunk = stand.chunk; offset = stand.offset; token = at } ∷ []
label_here stand at _ = []

-- of so many labels, each of two tokens, those that are numbers
unfoldable pub labels_here : List TokenParts → Stand → ℕ → ℕ → List Local
labels_here tokens stand at zero = []
labels_here tokens stand at (suc more) =
    label_here stand at (kind_at tokens at) ++ labels_here tokens stand (at + 2) more

-- those of statements, each where it stands
unfoldable pub all_labels : List TokenParts → List StatementParts → List Stand → List Local
all_labels tokens [] stands = []
all_labels tokens (s ∷ statements) [] = []
all_labels tokens (s ∷ statements) (stand ∷ stands) =
    labels_here tokens stand s.first s.labels ++ all_labels tokens statements stands

-- where the statements of a file stand
abbrev pub stands_of : ProgramParts → ℕ → List Stand
stands_of program file = slice_index_or program.made.stands file []

-- the local labels of a file's statements up to the one of a number, and of those after it
abbrev pub labels_up_to : ProgramParts → ℕ → FileParts → ℕ → List Local
labels_up_to program file parts number =
    all_labels parts.tokens (take (number + 1) parts.statements)
    (take (number + 1) (stands_of program file))

abbrev pub labels_after : ProgramParts → ℕ → FileParts → ℕ → List Local
labels_after program file parts number =
    all_labels parts.tokens (drop (number + 1) parts.statements)
    (drop (number + 1) (stands_of program file))

-- the last one that passes a test, and the first one
pub record IsLast (test : Local → Bool) (labels : List Local) (label : Local) : Type 0 where
  pub before : List Local
  pub after : List Local
  pub parts : before ++ label ∷ after ≡ labels
  pub passes : test label ≡ true
  pub none : All (λ other. test other ≡ false) after

pub record IsFirst (test : Local → Bool) (labels : List Local) (label : Local) : Type 0 where
  pub before : List Local
  pub after : List Local
  pub parts : before ++ label ∷ after ≡ labels
  pub passes : test label ≡ true
  pub none : All (λ other. test other ≡ false) before

-- ---- names

-- a label that is a name is the symbol that its file has of it, a place where the statement stands
pub record IsNamed (program : ProgramParts) (file token : ℕ) (name : List ℕ) (stand : Stand)
    : Type 0 where
  pub symbol : ℕ
  pub definition : DefinitionParts
  pub own : own_in program file name ≡ Some symbol
  pub there : slice_get program.made.symbols symbol ≡ Some definition
  pub name_is : definition.name ≡ name
  pub token_is : definition.token ≡ token
  pub place : definition.meaning ≡ Place stand.chunk stand.offset
