-- Operands with commas between them, up to the statement's end.
use Rattle.std.specs.Prelude.{ℕ, zero, suc, ◌+◌, ◌||◌, if◌then◌else◌, List, length, None}
use Rattle.asm_tokens.specs.Tokens.{TokenParts}
use Rattle.asm_statements.specs.declared.statement.Role.{Role}
use Rattle.asm_statements.specs.declared.statement.Role.TheVariants as roles
use Rattle.asm_statements.specs.Drafts.{Step, ◌>>=◌, add, done, look, with_operand}
use Rattle.asm_statements.specs.Marks.{is_comma, is_end, comma_at, name_at, string_at, end_at}
use Rattle.asm_statements.specs.Operands.{operand}

-- a name, a string or an expression
unfoldable pub name_item : List TokenParts → ℕ → Step ℕ
name_item tokens at = do
  next ← look (name_at tokens at)
  _ ← add (with_operand roles.Name None at)
  done next

unfoldable pub string_item : List TokenParts → ℕ → Step ℕ
string_item tokens at = do
  next ← look (string_at tokens at)
  _ ← add (with_operand roles.String None at)
  done next

unfoldable pub item : List TokenParts → Role → ℕ → Step ℕ
item tokens roles.Name at = name_item tokens at
item tokens roles.String at = string_item tokens at
item tokens role at = operand tokens role at

unfoldable pub next_item : List TokenParts → Role → ℕ → Step ℕ
next_item tokens role at = do
  next ← look (comma_at tokens at)
  item tokens role next

-- one or more; there are no more of them than tokens
unfoldable pub listed_more : ℕ → List TokenParts → Role → ℕ → Step (Unit {0})
listed_more zero tokens role at = look (end_at tokens at)
listed_more (suc more) tokens role at =
    if is_comma tokens at then (do
      next ← next_item tokens role at
      listed_more more tokens role next)
    else look (end_at tokens at)

unfoldable pub listed : List TokenParts → Role → ℕ → Step (Unit {0})
listed tokens role at = do
  next ← item tokens role at
  listed_more (length tokens) tokens role next

-- an early number, if there is a comma
unfoldable pub one_more : List TokenParts → ℕ → Step (Unit {0})
one_more tokens at =
    if is_comma tokens at then (do
      next ← next_item tokens roles.Early at
      look (end_at tokens next))
    else look (end_at tokens at)

-- of a padding: a number, and then a byte, which may be left out, and the most bytes
unfoldable pub fill : List TokenParts → ℕ → Step ℕ
fill tokens at =
    if is_comma tokens at || is_end tokens at then (do
      _ ← add (with_operand roles.Absent None at)
      done at)
    else operand tokens roles.Early at

unfoldable pub after_number : List TokenParts → ℕ → Step (Unit {0})
after_number tokens at =
    if is_comma tokens at then (do
      after ← fill tokens (at + 1)
      one_more tokens after)
    else look (end_at tokens at)

unfoldable pub padding : List TokenParts → ℕ → Step (Unit {0})
padding tokens at = do
  next ← operand tokens roles.Early at
  after_number tokens next
