-- Lines of instructions.
use Rattle.std.specs.Prelude.{ℕ, ◌+◌, ◌-◌, ◌*◌, ◌%◌, ◌^◌, Bool, true, false, List, [], ◌∷◌}
use Rattle.std.specs.Prelude.{slice_get}
use Rattle.std.specs.Prelude.{Option, Some, None}
use Rattle.asm_symbols.specs.Definitions.{DefinitionParts}
use Rattle.asm_places.specs.Places.{PlacesParts}
use Rattle.asm_labels.specs.declared.before.LabelBefore.{LabelBefore}
use Rattle.asm_labels.specs.Before.{label_before}
use Rattle.asm_instructions.specs.declared.origin.Origin.{Origin}
use Rattle.asm_mapping.specs.Lines.{LineParts, code, guard, exit, shown_text}

abbrev pub name_or_none : Option DefinitionParts → List ℕ
name_or_none (Some symbol) = shown_text symbol.name
name_or_none None = []

-- the name of the symbol of a number
unfoldable pub name_of : List DefinitionParts → ℕ → List ℕ
name_of symbols symbol = name_or_none (slice_get symbols symbol)

-- a label, and how many bytes behind it an instruction is
abbrev pub label_of : List DefinitionParts → ℕ → Option LabelBefore → Option (List ℕ × ℕ)
label_of symbols instruction (Some before) =
    Some (name_of symbols before.symbol, 4 * (instruction - before.instruction))
label_of symbols instruction None = None

abbrev pub code_line : List DefinitionParts → ℕ → Option LabelBefore → Origin → LineParts
code_line symbols instruction before origin =
    code instruction ((origin.file + 1) % 2 ^ 64) origin.line (label_of symbols instruction before)

-- the line of an instruction, by its number and where it comes from
abbrev pub code_lines : PlacesParts → List DefinitionParts → ℕ → Origin → List LineParts
code_lines places symbols number origin =
    code_line symbols number (label_before places symbols number) origin ∷ []

-- the guard and the exit, behind so many instructions
abbrev pub exit_lines : ℕ → Bool → List LineParts
exit_lines count true = guard count ∷ exit (count + 1) ∷ []
exit_lines count false = []
