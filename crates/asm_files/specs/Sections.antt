-- The sections of all files, numbered as they first appear.
use Rattle.std.specs.Prelude.{ℕ, ◌+◌, if◌then◌else◌, List, [], ◌∷◌, fold, codes, Vec}
use Rattle.std.specs.Prelude.{Option, Some, None}
use Rattle.std.specs.Option.{is_none, unwrap_or}
use Rattle.std.specs.Global.{Global}
use Rattle.asm_names.specs.declared.sections.SectionKind.TheVariants.{Code}
use Rattle.asm_names.specs.Sections.{section_kind}
use Rattle.asm_tokens.specs.Tokens.{TokenParts}
use Rattle.asm_expressions.specs.Tokens.{text_at}
use Rattle.asm_statements.specs.declared.statement.Body.{Body}
use Rattle.asm_statements.specs.declared.statement.Body.TheVariants as bodies
use Rattle.asm_statements.specs.SectionNames.{section_name}
use Rattle.asm_statements.specs.Statements.{StatementParts}
use Rattle.asm_symbols.specs.Names.{no_names, defined, names_of}
use Rattle.asm_drafts.specs.declared.sections.Entry.{Entry}
use Rattle.asm_files.specs.declared.sections.Sections.{Sections}

-- the numbers of names, and how many there are
pub record SectionsParts : Type 0 where
  pub numbers : List ℕ → Option ℕ
  pub count : ℕ

abbrev pub sections_parts : Sections → SectionsParts
sections_parts s = record { numbers = names_of s.numbers; count = s.count }

abbrev pub bytes_of : Vec ℕ Global → List ℕ
bytes_of bytes = bytes.items

-- the name of the section that a statement names, if it names one
abbrev pub name_by : List TokenParts → Body → Option (List ℕ)
name_by tokens (bodies.PlainSection at) = Some (text_at tokens at)
name_by tokens (bodies.Section at end flags) = Some (section_name tokens at end)
name_by tokens _ = None

unfoldable pub named_section : List TokenParts → StatementParts → Option (List ℕ)
named_section tokens statement = name_by tokens statement.body

-- the names that statements name, in order
abbrev pub before_names : Option (List ℕ) → List (List ℕ) → List (List ℕ)
before_names (Some name) names = name ∷ names
before_names None names = names

unfoldable pub names_in : List TokenParts → List StatementParts → List (List ℕ)
names_in tokens [] = []
names_in tokens (statement ∷ statements) =
    before_names (named_section tokens statement) (names_in tokens statements)

-- one more section, unless its name has a number; `.text` is the first
unfoldable pub with_section : SectionsParts → List ℕ → SectionsParts
with_section parts name =
    record {
      numbers = defined parts.numbers name parts.count;
      count = if is_none (parts.numbers name) then parts.count + 1 else parts.count;
    }

unfoldable pub opening_sections : SectionsParts
opening_sections = record { numbers = defined no_names (codes ".text") 0; count = 1 }

unfoldable pub numbered : List (List ℕ) → SectionsParts
numbered names = fold with_section opening_sections names

-- the section that a statement names: its number, and the kind that its name says
unfoldable pub entry_named : SectionsParts → List ℕ → Entry
entry_named parts name =
    record { section = unwrap_or (parts.numbers name) 0; named = section_kind name }

abbrev pub entry_by : SectionsParts → Option (List ℕ) → Entry
entry_by parts (Some name) = entry_named parts name
entry_by parts None = record { section = 0; named = Code }

unfoldable pub entry_of : SectionsParts → List TokenParts → StatementParts → Entry
entry_of parts tokens statement = entry_by parts (named_section tokens statement)
