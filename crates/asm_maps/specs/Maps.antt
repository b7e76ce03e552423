-- The map of an assembled program, as a text (this project's own format).
use Rattle.std.specs.Prelude.{ℕ, List, [], ◌∷◌, ◌++◌, codes, decimal, Option, Some, None}
use Rattle.std.specs.Borrow.{Bor}
use Rattle.text_numbers.specs.Hexadecimal.{hex_text}
use Rattle.asm_maps.specs.declared.line.Label.{Label}
use Rattle.asm_maps.specs.declared.line.Stack.{Stack}
use Rattle.asm_maps.specs.declared.line.MapLine.{MapLine}
use Rattle.asm_maps.specs.declared.line.MapLine.TheVariants as lines

-- one text and then another; it groups to the right
infixr 65 ◌+++◌
abbrev pub ◌+++◌ : List ℕ → List ℕ → List ℕ
first +++ second = first ++ second

-- SYMBOL+OFFSET
abbrev pub label_text : Option Label → List ℕ
label_text (Some label) = label.name.now +++ codes "+" +++ decimal label.offset
label_text None = codes "-"

-- the symbol at which a hart begins, a dash for the first instruction
abbrev pub entry_text : Option (Bor (List ℕ)) → List ℕ
entry_text (Some name) = name.now
entry_text None = codes "-"

-- all sixteen hexadecimal digits of a number of 64 bits
abbrev pub address_text : ℕ → List ℕ
address_text addr = hex_text 16 addr

abbrev pub stack_text : Option Stack → List ℕ
stack_text (Some stack) = address_text stack.base +++ codes " " +++ decimal stack.size
stack_text None = codes "-"

abbrev pub line_text : MapLine → List ℕ
line_text (lines.File number name) = codes "file " +++ decimal number +++ codes " " +++ name.now
line_text (lines.Code number file line label) =
    codes "code " +++ decimal number +++ codes " " +++ decimal file +++ codes ":" +++ decimal line
    +++ codes " " +++ label_text label
line_text (lines.Guard number) = codes "code " +++ decimal number +++ codes " - guard"
line_text (lines.Exit number) = codes "code " +++ decimal number +++ codes " - exit"
line_text (lines.Data addr length name) =
    codes "data " +++ address_text addr +++ codes " " +++ decimal length +++ codes " " +++ name.now
line_text (lines.Table addr name) =
    codes "table " +++ address_text addr +++ codes " " +++ name.now
line_text (lines.Hart number entry stack) =
    codes "hart " +++ decimal number +++ codes " " +++ entry_text entry +++ codes " stack "
    +++ stack_text stack

unfoldable pub lines_text : List MapLine → List ℕ
lines_text [] = []
lines_text (line ∷ lines) = line_text line +++ codes "\n" +++ lines_text lines

-- the whole text: its kind and version, the lines, and the end
unfoldable pub map_text : List MapLine → List ℕ
map_text lines = codes "cheri-asm map 1\n" +++ lines_text lines +++ codes "end\n"
