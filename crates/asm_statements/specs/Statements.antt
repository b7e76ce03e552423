-- Statements: labels, and then nothing, a directive, an instruction, or `name = value`.
use Rattle.std.specs.Prelude.{ℕ, zero, suc, ◌+◌, ◌-◌, ◌/◌, ◌==◌, nat_le, nat_lt, Bool, true, false}
use Rattle.std.specs.Prelude.{not, ◌&&◌, ◌||◌, if◌then◌else◌, List, [], ◌∷◌, length, drop}
use Rattle.std.specs.Prelude.{slice_index, take_while, codes, bytes_eq, Option, Some, None}
use Rattle.std.specs.Prelude.{Result, Ok, Err}
use Rattle.std.specs.Char.{is_digit}
use Rattle.asm_tokens.specs.declared.fault.AsmFault.{AsmFault}
use Rattle.asm_tokens.specs.declared.fault.AsmFaultKind.TheVariants as faults
use Rattle.asm_tokens.specs.declared.token.TokenKind.{TokenKind}
use Rattle.asm_tokens.specs.declared.token.TokenKind.TheVariants as kinds
use Rattle.asm_tokens.specs.Tokens.{TokenParts}
use Rattle.asm_expressions.specs.declared.node.Node.{Node}
use Rattle.asm_expressions.specs.Tokens.{kind_at, text_at, fault_at}
use Rattle.asm_statements.specs.declared.statement.Body.{Body}
use Rattle.asm_statements.specs.declared.statement.Body.TheVariants as bodies
use Rattle.asm_statements.specs.declared.statement.Operand.{Operand}
use Rattle.asm_statements.specs.declared.statement.Statement.{Statement}
use Rattle.asm_statements.specs.Drafts.{Parts, Step, ◌>>=◌, add, done, look, with_body, empty_parts}
use Rattle.asm_statements.specs.Marks.{is_name, is_number, is_colon, is_equals, equals_at, end_kind}
use Rattle.asm_statements.specs.Directives.{directive, new_name_at, set_value}
use Rattle.asm_statements.specs.Instructions.{instruction}

abbrev pub is_point : List ℕ → Bool
is_point text = bytes_eq text (codes ".")

abbrev pub begins_with_point : List ℕ → Bool
begins_with_point text = nat_le 1 (length text) && (slice_index text 0 == 0x2E)

-- a label: a name other than `.`, or decimal digits, and a colon
unfoldable pub is_decimal : List TokenParts → ℕ → Bool
is_decimal tokens at =
    is_number tokens at
    && (length (take_while (λ b. is_digit b 10) (text_at tokens at)) == length (text_at tokens at))

unfoldable pub is_plain_name : List TokenParts → ℕ → Bool
is_plain_name tokens at = is_name tokens at && not (is_point (text_at tokens at))

unfoldable pub is_label : List TokenParts → ℕ → Bool
is_label tokens at =
    (is_plain_name tokens at || is_decimal tokens at) && is_colon tokens (at + 1)

-- the number of the token after labels, of which there are no more than tokens
unfoldable pub labels_up_to : ℕ → List TokenParts → ℕ → ℕ
labels_up_to zero tokens at = at
labels_up_to (suc more) tokens at =
    if is_label tokens at then labels_up_to more tokens (at + 2) else at

unfoldable pub labels_end : List TokenParts → ℕ → ℕ
labels_end tokens at = labels_up_to (length tokens) tokens at

-- `name = value`
unfoldable pub assigned : List TokenParts → ℕ → Step (Unit {0})
assigned tokens at = do
  equals ← look (new_name_at tokens at)
  _ ← add (with_body (bodies.Set at))
  next ← look (equals_at tokens equals)
  set_value tokens next

-- what begins with a name: a directive's begins with a point
unfoldable pub named_body : List TokenParts → ℕ → Step (Unit {0})
named_body tokens at =
    if is_equals tokens (at + 1) then assigned tokens at
    else if is_point (text_at tokens at) && is_colon tokens (at + 1) then
    look (Err (fault_at tokens faults.Operand at))
    else if begins_with_point (text_at tokens at) then directive tokens at
    else instruction tokens at

abbrev pub nothing_kind : TokenKind → Bool
nothing_kind kinds.End = true
nothing_kind kinds.Request = true
nothing_kind _ = false

unfoldable pub is_nothing : List TokenParts → ℕ → Bool
is_nothing tokens at = nothing_kind (kind_at tokens at)

-- what a statement is after its labels
unfoldable pub body : List TokenParts → ℕ → Step (Unit {0})
body tokens at =
    if is_nothing tokens at then done tt
    else if is_name tokens at then named_body tokens at
    else look (Err (fault_at tokens faults.Operand at))

-- a statement as its parts
pub record StatementParts : Type 0 where
  pub first : ℕ
  pub labels : ℕ
  pub body : Body
  pub operands : List Operand
  pub nodes : List Node
  pub fault : Option AsmFault

abbrev pub statement_parts : Statement → StatementParts
statement_parts statement =
    record {
      first = statement.first;
      labels = statement.labels;
      body = statement.body;
      operands = statement.operands.items;
      nodes = statement.nodes.items;
      fault = statement.fault;
    }

abbrev pub fault_of : Result (Unit {0}) AsmFault → Option AsmFault
fault_of (Ok done) = None
fault_of (Err fault) = Some fault

-- the statement of what was read after its labels, of which each is two tokens
abbrev pub ended : ℕ → ℕ → Parts × Result (Unit {0}) AsmFault → StatementParts
ended first at read =
    record {
      first = first;
      labels = (at - first) / 2;
      body = read.0.body;
      operands = read.0.operands;
      nodes = read.0.nodes;
      fault = fault_of read.1;
    }

-- the statement that begins with the token of a number
unfoldable pub statement_of : List TokenParts → ℕ → StatementParts
statement_of tokens first = let at = labels_end tokens first in
    ended first at (body tokens at empty_parts)

-- the number of the token after the first end of a statement
unfoldable pub after_end : ℕ → List TokenParts → ℕ
after_end at [] = at
after_end at (token ∷ tokens) =
    if end_kind token.kind then at + 1 else after_end (at + 1) tokens

unfoldable pub next_at : List TokenParts → ℕ → ℕ
next_at tokens at = after_end at (drop at tokens)

-- the statements of a file, of which there are no more than tokens
unfoldable pub statements_up_to : ℕ → List TokenParts → ℕ → List StatementParts
statements_up_to zero tokens at = []
statements_up_to (suc more) tokens at =
    if nat_lt at (length tokens) then
    statement_of tokens at ∷ statements_up_to more tokens (next_at tokens at)
    else []

unfoldable pub statements_of : List TokenParts → List StatementParts
statements_of tokens = statements_up_to (length tokens) tokens 0
