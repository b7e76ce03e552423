-- What one line of a listing makes of what the lines before it made (this project's own format).
-- First come the shapes of all its operands, then their ranges, and so on in the order of the kinds
-- of faults.
use Rattle.std.specs.Prelude.{ℕ, ◌-◌, ◌^◌, ◌==◌, if◌then◌else◌, List, length, Option, Some, None}
use Rattle.std.specs.Prelude.{Result, Ok, Err, codes, bytes_eq}
use Rattle.hex.specs.Hex.{decode_of}
use Rattle.hex.specs.declared.error.FromHexError.{FromHexError}
use Rattle.cheri_model.specs.instructions.Form.{instr_of}
use Rattle.grammar.specs.declared.fault.ListingFaultKind.{ListingFaultKind}
use Rattle.grammar.specs.declared.fault.ListingFaultKind.TheVariants.{Word, Operand}
use Rattle.grammar.specs.declared.directives.Directive.{Directive}
use Rattle.grammar.specs.declared.directives.Directive.TheVariants as directive
use Rattle.cheri_model.specs.declared.names.Mnemonic.{Mnemonic}
use Rattle.grammar.specs.declared.operands.TypeOperand.TheVariants.{Unsealed}
use Rattle.listings.specs.declared.draft.Setting.{Setting}
use Rattle.listings.specs.declared.draft.Setting.TheVariants as setting
use Rattle.grammar.specs.Faults.{◌>>=◌}
use Rattle.grammar.specs.Tokens.{token_at}
use Rattle.grammar.specs.Numerals.{number_of, at_most}
use Rattle.grammar.specs.Operands.{register_of}
use Rattle.grammar.specs.Capability.{cap_operands_of, cap_tokens, cap_parts_of}
use Rattle.grammar.specs.Directives.{directive_of}
use Rattle.cheri_model.specs.instructions.Names.{mnemonic_of}
use Rattle.grammar.specs.Forms.{counted, form_from}
use Rattle.grammar.specs.Labels.{LabelParts, is_label_token, label_name, label_fault}
use Rattle.listings.specs.Draft.{DraftParts, with_ram, with_hart, with_set, with_bytes}
use Rattle.listings.specs.Draft.{with_capability, with_instruction}

-- `.ram N`
unfoldable pub ram_line : DraftParts → List (List ℕ) → Result DraftParts ListingFaultKind
ram_line draft tokens = do
  count ← counted 2 tokens
  size ← number_of (token_at tokens 1)
  with_ram draft size

-- `.hart BASE LEN ADDR PERMS`
unfoldable pub hart_line : DraftParts → List (List ℕ) → Result DraftParts ListingFaultKind
hart_line draft tokens = do
  count ← counted 5 tokens
  operands ← cap_operands_of tokens 1 Unsealed
  parts ← cap_parts_of operands
  with_hart draft parts

-- a register other than `c0`
unfoldable pub settable_register_of : List ℕ → Result ℕ ListingFaultKind
settable_register_of token = do
  reg ← register_of token
  if reg == 0 then Err Operand else Ok reg

-- `V` of a line of 4 tokens, up to a limit
unfoldable pub word_setting : ℕ → List (List ℕ) → Result Setting ListingFaultKind
word_setting limit tokens = do
  count ← counted 4 tokens
  number ← number_of (token_at tokens 3)
  bits ← at_most limit number
  Ok (setting.Word bits)

-- `BASE LEN ADDR PERMS [TYPE]`
unfoldable pub capability_setting : List (List ℕ) → Result Setting ListingFaultKind
capability_setting tokens = do
  operands ← cap_tokens tokens 3
  parts ← cap_parts_of operands
  Ok (setting.Capability parts)

-- `int V`, `word V` or `cap ..`
unfoldable pub setting_of : List (List ℕ) → Result Setting ListingFaultKind
setting_of tokens =
    if bytes_eq (token_at tokens 2) (codes "int") then word_setting (2 ^ 64 - 1) tokens
    else if bytes_eq (token_at tokens 2) (codes "word") then word_setting (2 ^ 128 - 1) tokens
    else if bytes_eq (token_at tokens 2) (codes "cap") then capability_setting tokens
    else Err Operand

-- `.set cN int V`, `.set cN word V`, `.set cN cap BASE LEN ADDR PERMS [TYPE]`
unfoldable pub set_line : DraftParts → List (List ℕ) → Result DraftParts ListingFaultKind
set_line draft tokens = do
  reg ← settable_register_of (token_at tokens 1)
  value ← setting_of tokens
  with_set draft reg value

-- an even count of hexadecimal digits, not empty
abbrev pub unless_malformed : Result (List ℕ) FromHexError → Result (List ℕ) ListingFaultKind
unless_malformed (Ok bytes) = Ok bytes
unless_malformed (Err malformed) = Err Operand

unfoldable pub hex_bytes : List ℕ → Result (List ℕ) ListingFaultKind
hex_bytes token = if length token == 0 then Err Operand else unless_malformed (decode_of token)

-- `.bytes A HEX`
unfoldable pub bytes_line : DraftParts → List (List ℕ) → Result DraftParts ListingFaultKind
bytes_line draft tokens = do
  count ← counted 3 tokens
  addr ← number_of (token_at tokens 1)
  bytes ← hex_bytes (token_at tokens 2)
  addr ← at_most (2 ^ 64 - 1) addr
  with_bytes draft addr bytes

-- `.cap A BASE LEN ADDR PERMS [TYPE]`
unfoldable pub cap_line : DraftParts → List (List ℕ) → Result DraftParts ListingFaultKind
cap_line draft tokens = do
  addr ← number_of (token_at tokens 1)
  operands ← cap_tokens tokens 2
  addr ← at_most (2 ^ 64 - 1) addr
  parts ← cap_parts_of operands
  with_capability draft addr parts

unfoldable pub directive_line : DraftParts → Directive → List (List ℕ)
    → Result DraftParts ListingFaultKind
directive_line draft directive.Ram tokens = ram_line draft tokens
directive_line draft directive.Hart tokens = hart_line draft tokens
directive_line draft directive.Set tokens = set_line draft tokens
directive_line draft directive.Bytes tokens = bytes_line draft tokens
directive_line draft directive.Cap tokens = cap_line draft tokens

-- an instruction and its operands
unfoldable pub instruction_line : LabelParts → DraftParts → Mnemonic → List (List ℕ)
    → Result DraftParts ListingFaultKind
instruction_line labels draft mnemonic tokens = do
  form ← form_from labels mnemonic tokens
  with_instruction draft (instr_of form)

-- `name:`, alone on its line, which has this number
unfoldable pub label_line : LabelParts → ℕ → DraftParts → List (List ℕ)
    → Result DraftParts ListingFaultKind
label_line labels number draft tokens = do
  count ← counted 1 tokens
  fault ← label_fault labels number (label_name (token_at tokens 0))
  Ok draft

-- a line that begins with no directive
unfoldable pub other_line : LabelParts → ℕ → DraftParts → Option Mnemonic → List (List ℕ)
    → Result DraftParts ListingFaultKind
other_line labels number draft (Some mnemonic) tokens =
    instruction_line labels draft mnemonic tokens
other_line labels number draft None tokens =
    if is_label_token (token_at tokens 0) then label_line labels number draft tokens else Err Word

unfoldable pub line_from : LabelParts → ℕ → DraftParts → Option Directive → List (List ℕ)
    → Result DraftParts ListingFaultKind
line_from labels number draft (Some directive) tokens = directive_line draft directive tokens
line_from labels number draft None tokens =
    other_line labels number draft (mnemonic_of (token_at tokens 0)) tokens

-- A line's tokens: a directive, an instruction or a label. A line without tokens changes nothing.
unfoldable pub tokens_meaning : LabelParts → ℕ → DraftParts → List (List ℕ)
    → Result DraftParts ListingFaultKind
tokens_meaning labels number draft tokens =
    if length tokens == 0 then Ok draft
    else line_from labels number draft (directive_of (token_at tokens 0)) tokens
