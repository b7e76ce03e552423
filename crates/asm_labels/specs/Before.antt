-- The last label before each instruction.
use Rattle.std.specs.Prelude.{ℕ, zero, suc, ◌+◌, List, Option, Some, None}
use Rattle.asm_symbols.specs.Definitions.{DefinitionParts}
use Rattle.asm_places.specs.Places.{PlacesParts}
use Rattle.asm_labels.specs.declared.before.LabelBefore.{LabelBefore}
use Rattle.asm_labels.specs.Labels.{first_label}

-- the label of an instruction, if it has one, or else the last one before it
abbrev pub or_before : Option ℕ → ℕ → Option LabelBefore → Option LabelBefore
or_before (Some symbol) instruction before =
    Some (record { symbol = symbol; instruction = instruction })
or_before None instruction before = before

-- the last label of the first so many instructions: of several at one place the first
unfoldable pub last_label : PlacesParts → List DefinitionParts → ℕ → Option LabelBefore
last_label places symbols zero = None
last_label places symbols (suc n) =
    or_before (first_label places n 0 symbols) n (last_label places symbols n)

-- the last label at or before an instruction
abbrev pub label_before : PlacesParts → List DefinitionParts → ℕ → Option LabelBefore
label_before places symbols n = last_label places symbols (n + 1)
