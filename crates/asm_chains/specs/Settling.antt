-- Tables of values while symbols are worked out: what is in them is so by as many steps as they
-- have values.
use Rattle.std.specs.Prelude.{◌≡◌, ℕ, zero, suc, ◌<◌, List, length, sum_by}
use Rattle.std.specs.Prelude.{Bool, true, false, slice_set, Option, Some, None, Result, Ok, Err}
use Rattle.std.specs.Prelude.{IsErr}
use Rattle.asm_values.specs.declared.values.Value.{Value}
use Rattle.asm_expressions.specs.declared.values.ValueFault.{ValueFault}
use Rattle.asm_chains.specs.Scenes.{SceneParts, symbol_at, symbol_worked_out}
use Rattle.asm_chains.specs.Tables.{value_at, symbol_by_table}

abbrev pub plain : Result Value (ValueFault (Unit {0})) → Result Value (Unit {0})
plain (Ok value) = Ok value
plain (Err fault) = Err tt

-- the value of a symbol that needs no more than so many steps
unfoldable pub value_within : SceneParts → ℕ → ℕ → Result Value (Unit {0})
value_within scene zero symbol = Err tt
value_within scene (suc more) symbol =
    plain (symbol_worked_out scene (λ other at. value_within scene more other) (λ at. tt)
    (symbol_at scene symbol))

-- how many values there are in a table
abbrev pub value_weight : Option Value → ℕ
value_weight (Some value) = 1
value_weight None = 0

unfoldable pub value_count : List (Option Value) → ℕ
value_count values = sum_by value_weight values

-- each value of a table is so
pub record IsSound (scene : SceneParts) (values : List (Option Value)) : Type 0 where
  pub whole : length values ≡ length scene.symbols
  pub values_hold : (symbol : ℕ) (value : Value) → value_at values symbol ≡ Some value
      → value_within scene (value_count values) symbol ≡ Ok value

-- no symbol without a value has one by the others
abbrev pub IsClosedAt : SceneParts → List (Option Value) → ℕ → Type 0
IsClosedAt scene values symbol =
    value_at values symbol ≡ None → IsErr (symbol_by_table scene values symbol)

abbrev pub IsClosed : SceneParts → List (Option Value) → Type 0
IsClosed scene values =
    (symbol : ℕ) → symbol < length scene.symbols → IsClosedAt scene values symbol

abbrev pub IsSettled : SceneParts → List (Option Value) → Type 0
IsSettled scene values = IsSound scene values × IsClosed scene values

-- a symbol has a value now that it hadn't; or none by the others, and nothing has changed
abbrev pub Tried : Bool → SceneParts → List (Option Value) → List (Option Value) → ℕ → Type 0
Tried true scene old new symbol =
    (value : Value) × (symbol < length old) × (value_at old symbol ≡ None)
    × (symbol_by_table scene old symbol ≡ Ok value)
    × (new ≡ slice_set old symbol (Some value))
Tried false scene old new symbol =
    (new ≡ old) × (symbol < length old → IsClosedAt scene old symbol)

abbrev pub Tries : {E : Type 0} → Result Bool E → SceneParts → List (Option Value)
    → List (Option Value) → ℕ → Type 0
Tries (Ok changed) scene old new symbol = Tried changed scene old new symbol
Tries (Err refused) scene old new symbol = Unit {0}

-- the same of the symbols up to a number: there are more values now; or nothing has changed
abbrev pub PassesTo : Bool → SceneParts → List (Option Value) → List (Option Value) → ℕ → Type 0
PassesTo true scene old new end = value_count old < value_count new
PassesTo false scene old new end =
    (new ≡ old)
    × ((symbol : ℕ) → symbol < end → symbol < length old → IsClosedAt scene old symbol)

abbrev pub Passes : {E : Type 0} → Result Bool E → SceneParts → List (Option Value)
    → List (Option Value) → Type 0
Passes (Ok changed) scene old new =
    IsSound scene new × PassesTo changed scene old new (length scene.symbols)
Passes (Err refused) scene old new = Unit {0}
