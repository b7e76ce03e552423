-- What names mean in a file, and symbols that stand for others.
use Rattle.std.specs.Prelude.{ℕ, zero, suc, List, [], ◌∷◌, slice_get, Option, Some, None}
use Rattle.std.specs.Prelude.{Result, Ok, Err}
use Rattle.asm_tokens.specs.declared.fault.AsmFaultKind.{AsmFaultKind}
use Rattle.asm_tokens.specs.declared.fault.AsmFaultKind.TheVariants as faults
use Rattle.asm_expressions.specs.declared.node.Node.{Node}
use Rattle.asm_expressions.specs.declared.node.NodeKind.{NodeKind}
use Rattle.asm_expressions.specs.declared.node.NodeKind.TheVariants as kinds
use Rattle.asm_expressions.specs.Tokens.{text_at}
use Rattle.asm_statements.specs.Statements.{StatementParts}
use Rattle.asm_symbols.specs.declared.definitions.Meaning.{Meaning}
use Rattle.asm_symbols.specs.declared.definitions.Meaning.TheVariants as meanings
use Rattle.asm_symbols.specs.Definitions.{DefinitionParts}
use Rattle.asm_symbols.specs.Globals.{symbol_named}
use Rattle.asm_drafts.specs.Operands.{nodes_of}
use Rattle.asm_files.specs.Programs.{ProgramParts, tokens_in, statement_at, own_in}

-- the number of the symbol that a name means in a file
unfoldable pub named : ProgramParts → (List ℕ → Option ℕ) → ℕ → List ℕ → Option ℕ
named program seen file name = symbol_named (own_in program file) seen name

-- the nodes of an operand
abbrev pub nodes_by : Option StatementParts → ℕ → List Node
nodes_by (Some statement) operand = nodes_of statement operand
nodes_by None operand = []

unfoldable pub nodes_in : ProgramParts → ℕ → ℕ → ℕ → List Node
nodes_in program file statement operand = nodes_by (statement_at program file statement) operand

-- the token of the name that an expression is
abbrev pub if_symbol : NodeKind → ℕ → Option ℕ
if_symbol kinds.Symbol at = Some at
if_symbol _ at = None

unfoldable pub name_alone : List Node → Option ℕ
name_alone (node ∷ []) = if_symbol node.kind node.at
name_alone _ = None

-- the symbol whose name an expression is
abbrev pub symbol_or_fault : Option ℕ → Result ℕ AsmFaultKind
symbol_or_fault (Some symbol) = Ok symbol
symbol_or_fault None = Err faults.Symbol

abbrev pub named_at : ProgramParts → (List ℕ → Option ℕ) → ℕ → Option ℕ → Result ℕ AsmFaultKind
named_at program seen file (Some at) =
    symbol_or_fault (named program seen file (text_at (tokens_in program file) at))
named_at program seen file None = Err faults.Expression

unfoldable pub named_by : ProgramParts → (List ℕ → Option ℕ) → ℕ → List Node
    → Result ℕ AsmFaultKind
named_by program seen file nodes = named_at program seen file (name_alone nodes)

-- the symbol that a symbol stands for by its value, if it is no place
abbrev pub some_ok : Result ℕ AsmFaultKind → Result (Option ℕ) AsmFaultKind
some_ok (Ok symbol) = Ok (Some symbol)
some_ok (Err kind) = Err kind

abbrev pub alias_by : ProgramParts → (List ℕ → Option ℕ) → ℕ → Meaning
    → Result (Option ℕ) AsmFaultKind
alias_by program seen file (meanings.Assigned statement) =
    some_ok (named_by program seen file (nodes_in program file statement 0))
alias_by program seen file (meanings.Place chunk offset) = Ok None

abbrev pub alias_from : ProgramParts → (List ℕ → Option ℕ) → Option DefinitionParts
    → Result (Option ℕ) AsmFaultKind
alias_from program seen (Some definition) =
    alias_by program seen definition.file definition.meaning
alias_from program seen None = Ok None

unfoldable pub alias_of : ProgramParts → (List ℕ → Option ℕ) → ℕ → Result (Option ℕ) AsmFaultKind
alias_of program seen symbol = alias_from program seen (slice_get program.made.symbols symbol)

-- the place that a symbol stands for, through so many symbols
abbrev pub goes_on : ℕ → Result (Option ℕ) AsmFaultKind → (ℕ → Result ℕ AsmFaultKind)
    → Result ℕ AsmFaultKind
goes_on symbol (Ok (Some next)) rest = rest next
goes_on symbol (Ok None) rest = Ok symbol
goes_on symbol (Err kind) rest = Err kind

unfoldable pub behind : ProgramParts → (List ℕ → Option ℕ) → ℕ → ℕ → Result ℕ AsmFaultKind
behind program seen zero symbol = Err faults.Expression
behind program seen (suc more) symbol =
    goes_on symbol (alias_of program seen symbol) (behind program seen more)
