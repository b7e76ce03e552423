-- The lines of a map, each as what it tells.
use Rattle.std.specs.Prelude.{ℕ, ◌+◌, if◌then◌else◌, List, [], ◌∷◌, ◌++◌, option_map, Option}
use Rattle.std.specs.Borrow.{Bor}
use Rattle.std.specs.Str.{is_utf8}
use Rattle.asm_maps.specs.declared.line.Label.{Label}
use Rattle.asm_maps.specs.declared.line.Stack.{Stack}
use Rattle.asm_maps.specs.declared.line.MapLine.{MapLine}
use Rattle.asm_maps.specs.declared.line.MapLine.TheVariants as lines

-- a file; an instruction with the file and line of its statement, and the label before it with the
-- bytes between; the guard; the exit; a symbol in memory; an entry of the capability table; a hart
pub data LineParts : Type 0 where
  file : ℕ → List ℕ → LineParts
  code : ℕ → ℕ → ℕ → Option (List ℕ × ℕ) → LineParts
  guard : ℕ → LineParts
  exit : ℕ → LineParts
  symbol : ℕ → ℕ → List ℕ → LineParts
  entry : ℕ → List ℕ → LineParts
  hart : ℕ → Option (List ℕ) → Option Stack → LineParts

abbrev pub label_parts : Label → List ℕ × ℕ
label_parts label = (label.name.now, label.offset)

abbrev pub text_now : Bor (List ℕ) → List ℕ
text_now text = text.now

abbrev pub line_parts : MapLine → LineParts
line_parts (lines.File number name) = file number name.now
line_parts (lines.Code number source line label) =
    code number source line (option_map label_parts label)
line_parts (lines.Guard number) = guard number
line_parts (lines.Exit number) = exit number
line_parts (lines.Data addr length name) = symbol addr length name.now
line_parts (lines.Table addr name) = entry addr name.now
line_parts (lines.Hart number begins stack) = hart number (option_map text_now begins) stack

-- a name as a text; the names of assembly are ASCII, so that each is one
abbrev pub shown_text : List ℕ → List ℕ
shown_text name = if is_utf8 name then name else []

-- lines of items, each of which is given its number
unfoldable pub each_line : {X : Type 0} → (ℕ → X → List LineParts) → ℕ → List X → List LineParts
each_line line number [] = []
each_line line number (item ∷ items) = line number item ++ each_line line (number + 1) items
