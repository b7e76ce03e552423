-- Operands: from the number of a token to what is read there and the number of the next token.
use Rattle.std.specs.Prelude.{ℕ, ◌+◌, Bool, ◌&&◌, if◌then◌else◌, List, Option, Some, None}
use Rattle.std.specs.Prelude.{Result, Ok, Err}
use Rattle.asm_names.specs.declared.registers.RegisterKind.{RegisterKind}
use Rattle.asm_names.specs.declared.registers.RegisterKind.TheVariants.{Integer, Capability}
use Rattle.asm_names.specs.declared.relocations.Relocation.{Relocation}
use Rattle.asm_tokens.specs.declared.fault.AsmFault.{AsmFault}
use Rattle.asm_tokens.specs.Tokens.{TokenParts}
use Rattle.asm_expressions.specs.declared.node.Node.{Node}
use Rattle.asm_expressions.specs.Expressions.{expression_at}
use Rattle.asm_statements.specs.declared.forms.Wanted.{Wanted}
use Rattle.asm_statements.specs.declared.forms.Wanted.TheVariants as wanted
use Rattle.asm_statements.specs.declared.statement.Role.{Role}
use Rattle.asm_statements.specs.declared.statement.Role.TheVariants as roles
use Rattle.asm_statements.specs.Drafts.{Step, ◌>>=◌, add, done, look}
use Rattle.asm_statements.specs.Drafts.{with_nodes, with_operand, with_register}
use Rattle.asm_statements.specs.Fences.{fence}
use Rattle.asm_statements.specs.Marks.{is_open, is_percent, is_register}
use Rattle.asm_statements.specs.Marks.{open_at, close_at, register_at, relocation_at}

-- an expression, whose nodes are added
abbrev pub add_nodes : Result (List Node × ℕ) AsmFault → Step ℕ
add_nodes (Ok read) p = (with_nodes read.0 p, Ok read.1)
add_nodes (Err fault) p = (p, Err fault)

unfoldable pub expression : List TokenParts → ℕ → Step ℕ
expression tokens at = add_nodes (expression_at tokens at)

-- an operand that is an expression
unfoldable pub operand : List TokenParts → Role → ℕ → Step ℕ
operand tokens role at = do
  next ← expression tokens at
  _ ← add (with_operand role None at)
  done next

-- an expression in brackets after the name of an operator of relocation
unfoldable pub relocated : List TokenParts → ℕ → Step (Option Relocation × ℕ)
relocated tokens at = do
  relocation ← look (relocation_at tokens at)
  inner ← look (open_at tokens (at + 1))
  end ← expression tokens inner
  next ← look (close_at tokens end)
  done (Some relocation, next)

-- an immediate: an expression, or `%`, an operator of relocation, and an expression in brackets
unfoldable pub immediate : List TokenParts → ℕ → Step (Option Relocation × ℕ)
immediate tokens at =
    if is_percent tokens at then relocated tokens (at + 1)
    else (do
      next ← expression tokens at
      done (None, next))

unfoldable pub alone : List TokenParts → ℕ → Step ℕ
alone tokens at = do
  read ← immediate tokens at
  _ ← add (with_operand roles.Immediate read.0 at)
  done read.1

-- a register
unfoldable pub plain_register : List TokenParts → RegisterKind → ℕ → Step ℕ
plain_register tokens kind at = do
  register ← look (register_at tokens kind at)
  _ ← add (with_register register)
  done (at + 1)

-- a capability's register in brackets
unfoldable pub base : List TokenParts → ℕ → Step ℕ
base tokens at = do
  inner ← look (open_at tokens at)
  end ← plain_register tokens Capability inner
  next ← look (close_at tokens end)
  done next

unfoldable pub has_base_alone : List TokenParts → ℕ → Bool
has_base_alone tokens at = is_open tokens at && is_register tokens (at + 1)

-- memory: a register in brackets, and an offset before it, if any
unfoldable pub memory : List TokenParts → Role → ℕ → Step ℕ
memory tokens role at =
    if has_base_alone tokens at then base tokens at
    else (do
      read ← immediate tokens at
      next ← base tokens read.1
      _ ← add (with_operand role read.0 at)
      done next)

unfoldable pub wanted_operand : List TokenParts → Wanted → ℕ → Step ℕ
wanted_operand tokens wanted.Integer at = plain_register tokens Integer at
wanted_operand tokens wanted.Capability at = plain_register tokens Capability at
wanted_operand tokens wanted.Immediate at = alone tokens at
wanted_operand tokens wanted.Memory at = memory tokens roles.Immediate at
wanted_operand tokens wanted.Pointer at = memory tokens roles.Zero at
wanted_operand tokens wanted.Target at = operand tokens roles.Target at
wanted_operand tokens wanted.Symbol at = operand tokens roles.Symbol at
wanted_operand tokens wanted.Constant at = operand tokens roles.Early at
wanted_operand tokens wanted.Fence at = look (fence tokens at)
