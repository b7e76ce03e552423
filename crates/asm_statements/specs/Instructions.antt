-- Instructions: a name, which may have capitals, and its operands.
use Rattle.std.specs.Prelude.{ℕ, ◌+◌, if◌then◌else◌, List, map, Option, Some, None}
use Rattle.std.specs.Char.{to_ascii_lowercase}
use Rattle.asm_mnemonics.specs.declared.mnemonics.Mnemonic.{Mnemonic}
use Rattle.asm_mnemonics.specs.Mnemonics.{mnemonic_of}
use Rattle.asm_names.specs.Outside.{is_outside}
use Rattle.asm_tokens.specs.Tokens.{TokenParts}
use Rattle.asm_expressions.specs.Tokens.{text_at}
use Rattle.asm_statements.specs.declared.forms.Form.{Form}
use Rattle.asm_statements.specs.declared.forms.Form.TheVariants as form
use Rattle.asm_statements.specs.declared.forms.Wanted.{Wanted}
use Rattle.asm_statements.specs.declared.statement.Body.TheVariants as bodies
use Rattle.asm_statements.specs.Drafts.{Parts, Step, ◌>>=◌, add, done, look, with_body}
use Rattle.asm_statements.specs.Marks.{comma_at, end_at}
use Rattle.asm_statements.specs.Operands.{wanted_operand}
use Rattle.asm_statements.specs.Forms.{forms_of}
use Rattle.asm_statements.specs.Choosing.{meant_form}
use Rattle.asm_statements.specs.Operations.{operation_of}

-- the operands of a form, with commas between them
unfoldable pub next_wanted : List TokenParts → Wanted → ℕ → Step ℕ
next_wanted tokens wanted at = do
  next ← look (comma_at tokens at)
  wanted_operand tokens wanted next

unfoldable pub operands : List TokenParts → Form → ℕ → Step ℕ
operands tokens form.None at = done at
operands tokens (form.One first) at = wanted_operand tokens first at
operands tokens (form.Two first second) at = do
  next ← wanted_operand tokens first at
  next_wanted tokens second next
operands tokens (form.Three first second third) at = do
  next ← wanted_operand tokens first at
  after ← next_wanted tokens second next
  next_wanted tokens third after

-- its operation, with the registers that were read
unfoldable pub finished : Mnemonic → ℕ → Parts → Parts
finished mnemonic at p =
    with_body (bodies.Instruction at (Some (operation_of mnemonic p.registers))) p

unfoldable pub known : List TokenParts → Mnemonic → ℕ → Step (Unit {0})
known tokens mnemonic at = do
  _ ← add (with_body (bodies.Instruction at None))
  next ← operands tokens (meant_form tokens (forms_of mnemonic) (at + 1)) (at + 1)
  _ ← look (end_at tokens next)
  add (finished mnemonic at)

-- a name that is none of the machine's
unfoldable pub unknown : List ℕ → ℕ → Step (Unit {0})
unknown name at =
    if is_outside name then add (with_body (bodies.OutsideInstruction at))
    else add (with_body (bodies.UnknownInstruction at))

abbrev pub by_mnemonic : Option Mnemonic → List TokenParts → List ℕ → ℕ → Step (Unit {0})
by_mnemonic (Some mnemonic) tokens name at = known tokens mnemonic at
by_mnemonic None tokens name at = unknown name at

unfoldable pub named : List TokenParts → List ℕ → ℕ → Step (Unit {0})
named tokens name at = by_mnemonic (mnemonic_of name) tokens name at

unfoldable pub instruction : List TokenParts → ℕ → Step (Unit {0})
instruction tokens at = named tokens (map to_ascii_lowercase (text_at tokens at)) at
