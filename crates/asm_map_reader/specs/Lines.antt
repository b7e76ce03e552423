-- The lines of a map but the first and the last.
use Rattle.std.specs.Prelude.{ℕ, if◌then◌else◌, List, codes, bytes_eq, Option, Some, None}
use Rattle.std.specs.Prelude.{option_map}
use Rattle.std.specs.Borrow.{Bor}
use Rattle.text_parts.specs.Parts.{parted}
use Rattle.asm_maps.specs.declared.line.Label.{Label}
use Rattle.asm_maps.specs.declared.line.Stack.{Stack}
use Rattle.asm_maps.specs.declared.line.MapLine.{MapLine}
use Rattle.asm_maps.specs.declared.line.MapLine.TheVariants as lines
use Rattle.asm_map_reader.specs.Words.{◌>>=◌, plain_number, address_of, text_of, symbol_of}

-- a label, and how many bytes behind it an instruction is
pub record LabelParts : Type 0 where
  pub name : List ℕ
  pub offset : ℕ

-- a line by what it is about: a file; an instruction of a statement, the guard or the exit; a
-- symbol in memory; an entry of the capability table; and a hart
pub data LineParts : Type 0 where
  file : ℕ → List ℕ → LineParts
  code : ℕ → ℕ → ℕ → Option LabelParts → LineParts
  guard : ℕ → LineParts
  exit : ℕ → LineParts
  symbol : ℕ → ℕ → List ℕ → LineParts
  entry : ℕ → List ℕ → LineParts
  hart : ℕ → Option (List ℕ) → Option (ℕ × ℕ) → LineParts

abbrev pub label_parts : Label → LabelParts
label_parts label = record { name = label.name.now; offset = label.offset }

abbrev pub stack_parts : Stack → ℕ × ℕ
stack_parts stack = (stack.base, stack.size)

abbrev pub name_parts : Bor (List ℕ) → List ℕ
name_parts name = name.now

abbrev pub line_parts : MapLine → LineParts
line_parts (lines.File number name) = file number name.now
line_parts (lines.Code number place line label) =
    code number place line (option_map label_parts label)
line_parts (lines.Guard number) = guard number
line_parts (lines.Exit number) = exit number
line_parts (lines.Data addr length name) = symbol addr length name.now
line_parts (lines.Table addr name) = entry addr name.now
line_parts (lines.Hart number name stack) =
    hart number (option_map name_parts name) (option_map stack_parts stack)

-- ---- parts of lines

-- SYMBOL+OFFSET, or `-` for none
unfoldable pub label_of : List ℕ → Option (Option LabelParts)
label_of text =
    if bytes_eq text (codes "-") then Some None
    else (do
      parts ← parted 0x2B text
      name ← symbol_of parts.0
      offset ← plain_number parts.1
      Some (Some (record { name = name; offset = offset })))

-- SYMBOL, or `-` for the first instruction
unfoldable pub entry_of : List ℕ → Option (Option (List ℕ))
entry_of text =
    if bytes_eq text (codes "-") then Some None
    else (do
      name ← symbol_of text
      Some (Some name))

-- `stack BASE SIZE`, or `stack -` for none
unfoldable pub stack_of : List ℕ → Option (Option (ℕ × ℕ))
stack_of text =
    if bytes_eq text (codes "stack -") then Some None
    else (do
      parts ← parted 0x20 text
      words ← parted 0x20 parts.1
      base ← address_of words.0
      size ← plain_number words.1
      if bytes_eq parts.0 (codes "stack") then Some (Some (base, size)) else None)

-- ---- lines by their first word

-- NUMBER NAME
unfoldable pub file_line : List ℕ → Option LineParts
file_line text = do
  parts ← parted 0x20 text
  number ← plain_number parts.0
  name ← text_of parts.1
  Some (file number name)

-- FILE:LINE LABEL
unfoldable pub statement_line : ℕ → List ℕ → Option LineParts
statement_line number text = do
  parts ← parted 0x20 text
  place ← parted 0x3A parts.0
  name ← plain_number place.0
  line ← plain_number place.1
  label ← label_of parts.1
  Some (code number name line label)

abbrev pub numbered_line : ℕ → List ℕ → Option LineParts
numbered_line number text =
    if bytes_eq text (codes "- guard") then Some (guard number)
    else if bytes_eq text (codes "- exit") then Some (exit number)
    else statement_line number text

-- NUMBER and a statement, or `- guard`, or `- exit`
unfoldable pub code_line : List ℕ → Option LineParts
code_line text = do
  parts ← parted 0x20 text
  number ← plain_number parts.0
  numbered_line number parts.1

-- ADDRESS LENGTH SYMBOL
unfoldable pub data_line : List ℕ → Option LineParts
data_line text = do
  parts ← parted 0x20 text
  addr ← address_of parts.0
  words ← parted 0x20 parts.1
  size ← plain_number words.0
  name ← symbol_of words.1
  Some (symbol addr size name)

-- ADDRESS SYMBOL
unfoldable pub table_line : List ℕ → Option LineParts
table_line text = do
  parts ← parted 0x20 text
  addr ← address_of parts.0
  name ← symbol_of parts.1
  Some (entry addr name)

-- NUMBER ENTRY STACK
unfoldable pub hart_line : List ℕ → Option LineParts
hart_line text = do
  parts ← parted 0x20 text
  number ← plain_number parts.0
  words ← parted 0x20 parts.1
  name ← entry_of words.0
  stack ← stack_of words.1
  Some (hart number name stack)

abbrev pub named_line : List ℕ → List ℕ → Option LineParts
named_line word text =
    if bytes_eq word (codes "file") then file_line text
    else if bytes_eq word (codes "code") then code_line text
    else if bytes_eq word (codes "data") then data_line text
    else if bytes_eq word (codes "table") then table_line text
    else if bytes_eq word (codes "hart") then hart_line text
    else None

unfoldable pub line_of : List ℕ → Option LineParts
line_of text = do
  parts ← parted 0x20 text
  named_line parts.0 parts.1
