-- Lines that a map can have, and what they say, one after another.
use Rattle.std.specs.Prelude.{◌≡◌, ℕ, ◌+◌, ◌<◌, ◌^◌, ◌==◌, true, false, List, [], ◌∷◌, Option, Some}
use Rattle.std.specs.Prelude.{None, Result, Ok, ⊤, codes}
use Rattle.std.specs.Borrow.{Bor}
use Rattle.std.specs.List.{All}
use Rattle.std.specs.Str.{is_utf8}
use Rattle.asm_map_reader.specs.declared.draft.Counts.{Counts}
use Rattle.asm_map_reader.specs.Lines.{LineParts}
use Rattle.asm_map_reader.specs.Reading.{DraftParts, empty_draft, or_line, with_end, with_head}
use Rattle.asm_map_reader.specs.Reading.{with_line}
use Rattle.asm_map_reader.specs.Sources.{SourceParts}
use Rattle.asm_map_reader.specs.Words.{is_symbol}
use Rattle.asm_maps.specs.declared.line.Label.{Label}
use Rattle.asm_maps.specs.declared.line.MapLine.{MapLine}
use Rattle.asm_maps.specs.declared.line.MapLine.TheVariants as lines
use Rattle.asm_maps.specs.declared.line.Stack.{Stack}

-- a number of 64 bits
abbrev pub IsWord : ℕ → Type 0
IsWord n = n < 2 ^ 64

-- a symbol's name
abbrev pub IsName : Bor (List ℕ) → Type 0
IsName name = (is_symbol name.now ≡ true) × (is_utf8 name.now ≡ true)

-- a file's name, which has no newline
abbrev pub IsFileName : Bor (List ℕ) → Type 0
IsFileName name = (is_utf8 name.now ≡ true) × All (λ b. (b == 0x0A) ≡ false) name.now

abbrev pub IsLabel : Option Label → Type 0
IsLabel (Some label) = IsName label.name × IsWord label.offset
IsLabel None = ⊤

abbrev pub IsEntry : Option (Bor (List ℕ)) → Type 0
IsEntry (Some name) = IsName name
IsEntry None = ⊤

abbrev pub IsStack : Option Stack → Type 0
IsStack (Some stack) = IsWord stack.base × IsWord stack.size
IsStack None = ⊤

-- a line that a map can have
abbrev pub IsWritable : MapLine → Type 0
IsWritable (lines.File number name) = IsWord number × IsFileName name
IsWritable (lines.Code number file line label) =
    IsWord number × IsWord file × IsWord line × IsLabel label
IsWritable (lines.Guard number) = IsWord number
IsWritable (lines.Exit number) = IsWord number
IsWritable (lines.Data addr length name) = IsWord addr × IsWord length × IsName name
IsWritable (lines.Table addr name) = IsWord addr × IsName name
IsWritable (lines.Hart number entry stack) = IsWord number × IsEntry entry × IsStack stack

-- what lines say after these, the first of this number, and then the end
unfoldable pub said_from : Counts → ℕ → DraftParts → List LineParts → Result (List SourceParts) ℕ
said_from counts number draft [] =
    or_line number (with_end counts draft) (λ ended. Ok ended.sources)
said_from counts number draft (line ∷ lines) =
    or_line number (with_line counts draft line)
    (λ next. said_from counts (number + 1) next lines)

-- what the lines of a map say after its first, which has number 1
abbrev pub said_of : Counts → List LineParts → Result (List SourceParts) ℕ
said_of counts lines =
    or_line 1 (with_head empty_draft (codes "cheri-asm map 1"))
    (λ draft. said_from counts 2 draft lines)
