-- The values of capability registers.
use Rattle.std.specs.Prelude.{ℕ, ◌-◌, ◌^◌, ◌==◌, nat_le, Bool, ◌&&◌, if◌then◌else◌, List, length}
use Rattle.std.specs.Prelude.{drop, slice_index, codes, bytes_eq, Option, Some, None, option_map}
use Rattle.std.specs.Prelude.{Result, Ok, Err}
use Rattle.text_numbers.specs.Numerals.{number_of, within_128_bits}
use Rattle.grammar.specs.declared.capability.CapOperands.{CapOperands}
use Rattle.grammar.specs.declared.capability.CapParts.{CapParts}
use Rattle.grammar.specs.declared.operands.TypeOperand.{TypeOperand}
use Rattle.grammar.specs.declared.operands.TypeOperand.TheVariants.{Unsealed}
use Rattle.grammar.specs.declared.fault.ListingFaultKind.{ListingFaultKind}
use Rattle.grammar.specs.Capability.{cap_parts_of}
use Rattle.grammar.specs.Operands.{type_operand_of}
use Rattle.grammar.specs.Permissions.{permissions_of}
use Rattle.asm_requests.specs.declared.values.Held.{Held}
use Rattle.asm_requests.specs.declared.values.Held.TheVariants as helds
use Rattle.asm_requests.specs.Steps.{◌>>=◌}
use Rattle.text_parts.specs.Parts.{parted}
use Rattle.asm_requests.specs.Numbers.{number_up_to}

-- what a capability register is to hold: the capability of a symbol, moved by so many bytes; the
-- table; or the capability of these parts
pub data HeldParts : Type 0 where
  symbol : List ℕ → ℕ → HeldParts
  table : HeldParts
  written : CapParts → HeldParts

abbrev pub held_parts : Held → HeldParts
held_parts (helds.Symbol name offset) = symbol name.now offset
held_parts helds.Table = table
held_parts (helds.Written parts) = written parts

-- what was read, whatever the kind of the fault
abbrev pub if_read : {A : Type 0} → Result A ListingFaultKind → Option A
if_read (Ok x) = Some x
if_read (Err fault) = None

-- PERMS, or PERMS and TYPE
abbrev pub typed_parts : List ℕ → Option (List ℕ × List ℕ) → Option (List ℕ × TypeOperand)
typed_parts text (Some parts) =
    option_map (λ otype. (parts.0, otype)) (if_read (type_operand_of parts.1))
typed_parts text None = Some (text, Unsealed)

unfoldable pub typed : List ℕ → Option (List ℕ × TypeOperand)
typed text = typed_parts text (parted 0x3A text)

-- a number as listings have it; none of its 128 bits or fewer where it has more
abbrev pub operand_of : List ℕ → Option (Option ℕ)
operand_of text = option_map within_128_bits (number_of text)

unfoldable pub operands_of : List ℕ → List ℕ → List ℕ → List ℕ → TypeOperand → Option CapOperands
operands_of base_text len_text addr_text perms_text otype = do
  base ← operand_of base_text
  len ← operand_of len_text
  addr ← operand_of addr_text
  perms ← if_read (permissions_of perms_text)
  Some (record { base = base; len = len; addr = addr; perms = perms; otype = otype })

-- BASE:LEN:ADDR:PERMS, or with :TYPE
unfoldable pub literal_of : List ℕ → Option CapParts
literal_of text = do
  base ← parted 0x3A text
  len ← parted 0x3A base.1
  addr ← parted 0x3A len.1
  perms ← typed addr.1
  operands ← operands_of base.0 len.0 addr.0 perms.0 perms.1
  if_read (cap_parts_of operands)

-- SYMBOL, or SYMBOL+NUMBER
abbrev pub symbol_from : List ℕ → Option (List ℕ × List ℕ) → Option HeldParts
symbol_from text (Some parts) =
    option_map (λ offset. symbol parts.0 offset) (number_up_to (2 ^ 64 - 1) parts.1)
symbol_from text None = Some (symbol text 0)

unfoldable pub symbol_of : List ℕ → Option HeldParts
symbol_of text = symbol_from text (parted 0x2B text)

-- whether a text begins with `cap:`
abbrev pub begins_cap : List ℕ → Bool
begins_cap text =
    nat_le 4 (length text) && (slice_index text 0 == 0x63) && (slice_index text 1 == 0x61)
    && (slice_index text 2 == 0x70) && (slice_index text 3 == 0x3A)

-- what a capability register is to hold
unfoldable pub held_of : List ℕ → Option HeldParts
held_of text =
    if begins_cap text then option_map (λ parts. written parts) (literal_of (drop 4 text))
    else if bytes_eq text (codes "@table") then Some table
    else symbol_of text
