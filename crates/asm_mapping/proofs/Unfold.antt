-- Names for `unfolding(..)` that open what their own line names.
use Rattle.std.specs.Prelude.{ℕ, List}
use Rattle.asm_symbols.specs.Definitions.{DefinitionParts}
use Rattle.asm_mapping.specs.Code.{name_of}
use Rattle.asm_mapping.specs.Memory.{kept_address, symbol_lines}
use Rattle.asm_mapping.specs.Mapping.{lines_of}

unfoldable pub code : List DefinitionParts → ℕ → List ℕ
unfolding name_of
code symbols symbol = name_of symbols symbol

unfoldable pub memory : List DefinitionParts → ℕ → List ℕ
unfolding kept_address symbol_lines
memory symbols symbol = name_of symbols symbol

unfoldable pub mapping : List DefinitionParts → ℕ → List ℕ
unfolding lines_of
mapping symbols symbol = name_of symbols symbol
