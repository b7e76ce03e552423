-- `.section NAME`, `.section NAME, "FLAGS"`, `.section NAME, "FLAGS", @TYPE, ..`
use Rattle.std.specs.Prelude.{◌≡◌, ◌⊎◌, ℕ, zero, suc, ◌+◌, ◌==◌, Bool, false, ◌||◌}
use Rattle.std.specs.Prelude.{if◌then◌else◌, List, length, Option, Some, None, Result, Ok, Err}
use Rattle.asm_names.specs.declared.sections.SectionKind.{SectionKind}
use Rattle.asm_names.specs.Sections.{is_refused_section}
use Rattle.asm_tokens.specs.declared.fault.AsmFault.{AsmFault}
use Rattle.asm_tokens.specs.declared.fault.AsmFaultKind.TheVariants as faults
use Rattle.asm_tokens.specs.Faults.{no_memory, ◌>>=◌}
use Rattle.asm_tokens.specs.Strings.{string_of}
use Rattle.asm_tokens.specs.Tokens.{TokenParts}
use Rattle.asm_expressions.specs.Tokens.{text_at, fault_at}
use Rattle.asm_statements.specs.declared.flags.Flags.{Flags}
use Rattle.asm_statements.specs.declared.statement.Body.TheVariants as bodies
use Rattle.asm_statements.specs.Drafts.{Step, with_body}
use Rattle.asm_statements.specs.Flags.{flags_of, kind_of, is_nobits}
use Rattle.asm_statements.specs.Marks.{is_at, is_comma, is_name, is_number, is_percent, is_string}
use Rattle.asm_statements.specs.Marks.{comma_at, end_at}
use Rattle.asm_statements.specs.SectionNames.{name_end, section_name}

-- an answer gives a meaning, or is out of memory
abbrev pub AnswersAt : {A : Type 0} → Result A AsmFault → Result A AsmFault → Type 0
AnswersAt result meaning = (result ≡ Err no_memory) ⊎ (result ≡ meaning)

-- a section's name: none is missing, and none is refused
unfoldable pub name_or_fault : List TokenParts → List ℕ → ℕ → Result (Unit {0}) AsmFault
name_or_fault tokens name at =
    if length name == 0 then Err (fault_at tokens faults.Operand at)
    else if is_refused_section name then Err (fault_at tokens faults.Profile at)
    else Ok tt

unfoldable pub section_name_at : List TokenParts → ℕ → Result ℕ AsmFault
section_name_at tokens at = do
  _ ← name_or_fault tokens (section_name tokens at (name_end tokens at)) at
  Ok (name_end tokens at)

-- flags: a string of their letters, without that of threads
abbrev pub flags_or_fault : Flags → List TokenParts → ℕ → Result Flags AsmFault
flags_or_fault flags tokens at =
    if flags.unknown then Err (fault_at tokens faults.Operand at)
    else if flags.threads then Err (fault_at tokens faults.Profile at)
    else Ok flags

unfoldable pub flags_at : List TokenParts → ℕ → Result Flags AsmFault
flags_at tokens at =
    if is_string tokens at then flags_or_fault (flags_of (string_of (text_at tokens at))) tokens at
    else Err (fault_at tokens faults.Operand at)

-- a type: `@` or `%` and its name
unfoldable pub sign_at : List TokenParts → ℕ → Result ℕ AsmFault
sign_at tokens at =
    if is_at tokens at || is_percent tokens at then Ok (at + 1)
    else Err (fault_at tokens faults.Operand at)

abbrev pub type_or_fault : Option Bool → List TokenParts → ℕ → Result Bool AsmFault
type_or_fault (Some nobits) tokens at = Ok nobits
type_or_fault None tokens at = Err (fault_at tokens faults.Profile at)

unfoldable pub type_at : List TokenParts → ℕ → Result Bool AsmFault
type_at tokens at =
    if is_name tokens at then type_or_fault (is_nobits (text_at tokens at)) tokens at
    else Err (fault_at tokens faults.Operand at)

-- names and numbers after it say nothing; there are no more of them than tokens
unfoldable pub word_at : List TokenParts → ℕ → Result ℕ AsmFault
word_at tokens at =
    if is_name tokens at || is_number tokens at then Ok (at + 1)
    else Err (fault_at tokens faults.Operand at)

unfoldable pub next_word : List TokenParts → ℕ → Result ℕ AsmFault
next_word tokens at = do
  next ← comma_at tokens at
  word_at tokens next

unfoldable pub words_up_to : ℕ → List TokenParts → ℕ → Result ℕ AsmFault
words_up_to zero tokens at = Ok at
words_up_to (suc more) tokens at =
    if is_comma tokens at then (do
      next ← next_word tokens at
      words_up_to more tokens next)
    else Ok at

unfoldable pub words_after : List TokenParts → ℕ → Result ℕ AsmFault
words_after tokens at = words_up_to (length tokens) tokens at

-- whether there is a type that says zeros, and the number of the token after it
unfoldable pub typed : List TokenParts → ℕ → Result (Bool × ℕ) AsmFault
typed tokens at = do
  name ← sign_at tokens at
  nobits ← type_at tokens name
  next ← words_after tokens (name + 1)
  Ok (nobits, next)

unfoldable pub type_after : List TokenParts → ℕ → Result (Bool × ℕ) AsmFault
type_after tokens at = if is_comma tokens at then typed tokens (at + 1) else Ok (false, at)

-- the kind that flags and type say, whose fault is at the flags
abbrev pub kind_or_fault : Option SectionKind → List TokenParts → ℕ → Result SectionKind AsmFault
kind_or_fault (Some kind) tokens at = Ok kind
kind_or_fault None tokens at = Err (fault_at tokens faults.Section at)

unfoldable pub kind_by_flags : List TokenParts → ℕ → Result SectionKind AsmFault
kind_by_flags tokens at = do
  flags ← flags_at tokens at
  type ← type_after tokens (at + 1)
  kind ← kind_or_fault (kind_of flags type.0) tokens at
  _ ← end_at tokens type.1
  Ok kind

-- after the name: nothing, or flags
unfoldable pub kind_after : List TokenParts → ℕ → Result (Option SectionKind) AsmFault
kind_after tokens at =
    if is_comma tokens at then (do
      kind ← kind_by_flags tokens (at + 1)
      Ok (Some kind))
    else (do
      _ ← end_at tokens at
      Ok None)

unfoldable pub section_read : List TokenParts → ℕ → Result (ℕ × Option SectionKind) AsmFault
section_read tokens at = do
  end ← section_name_at tokens at
  kind ← kind_after tokens end
  Ok (end, kind)

abbrev pub entered : ℕ → Result (ℕ × Option SectionKind) AsmFault → Step (Unit {0})
entered at (Ok read) p = (with_body (bodies.Section at read.0 read.1) p, Ok tt)
entered at (Err fault) p = (p, Err fault)

unfoldable pub section : List TokenParts → ℕ → Step (Unit {0})
section tokens at = entered at (section_read tokens at)
