-- The value of a symbol that stands for an expression. A name that is met again while it is worked
-- out is refused where it stands.
use Rattle.std.specs.Prelude.{ℕ, zero, suc, ◌==◌, nat_lt, Bool, ◌&&◌, not, if◌then◌else◌}
use Rattle.std.specs.Prelude.{List, [], ◌∷◌, length, Option, Some, None, Result, Ok, Err}
use Rattle.std.specs.Prelude.{map}
use Rattle.std.specs.List.{list_any, range_with_len}
use Rattle.asm_tokens.specs.declared.fault.AsmFaultKind.TheVariants as faults
use Rattle.asm_values.specs.declared.values.Value.{Value}
use Rattle.asm_expressions.specs.declared.node.Node.{Node}
use Rattle.asm_expressions.specs.declared.values.ValueFault.{ValueFault}
use Rattle.asm_expressions.specs.declared.values.ValueFault.TheVariants.{Operator, Name, NoMemory}
use Rattle.asm_chains.specs.declared.scene.LateFault.{LateFault}
use Rattle.asm_chains.specs.declared.scene.Setting.{Setting}
use Rattle.asm_chains.specs.Faults.{fault_in, no_memory}
use Rattle.asm_chains.specs.Scenes.{SceneParts, SymbolParts, symbol_at, symbol_worked_out}
use Rattle.asm_chains.specs.Scenes.{worked_out}

-- an expression's value, or its fault where it stands
abbrev pub or_fault : Setting → Result Value (ValueFault LateFault) → Result Value LateFault
or_fault setting (Ok value) = Ok value
or_fault setting (Err (Operator at)) = Err (fault_in setting faults.Expression at)
or_fault setting (Err (Name fault)) = Err fault
or_fault setting (Err NoMemory) = Err no_memory

-- whether a symbol is there and isn't on the way
abbrev pub is_open : SceneParts → List ℕ → ℕ → Bool
is_open scene way symbol =
    nat_lt symbol (length scene.symbols) && not (list_any (λ n. n == symbol) way)

-- the value of a symbol, or its fault, by what others are worth
abbrev pub value_by : SceneParts → (ℕ → LateFault → Result Value LateFault) → SymbolParts
    → Result Value LateFault
value_by scene symbols symbol =
    or_fault symbol.setting
    (symbol_worked_out scene
    (λ other at. symbols other (fault_in symbol.setting faults.Expression at))
    (fault_in symbol.setting faults.Symbol) symbol)

-- the value of a symbol, with those on the way to it, of which there are no more than symbols; or
-- the fault of one that is met again
unfoldable pub value_on : SceneParts → ℕ → List ℕ → ℕ → LateFault → Result Value LateFault
value_on scene zero way symbol again = Err again
value_on scene (suc more) way symbol again =
    if is_open scene way symbol
    then value_by scene (value_on scene more (symbol ∷ way)) (symbol_at scene symbol)
    else Err again

unfoldable pub symbol_value : SceneParts → ℕ → LateFault → Result Value LateFault
symbol_value scene symbol again = value_on scene (length scene.symbols) [] symbol again

-- the value of an expression, or its fault
unfoldable pub expression_value : SceneParts → Setting → List Node → Result Value LateFault
expression_value scene setting nodes =
    or_fault setting
    (worked_out scene
    (λ other at. symbol_value scene other (fault_in setting faults.Expression at))
    (fault_in setting faults.Symbol) setting nodes)

-- the value, if there is one
abbrev pub if_value : Result Value LateFault → Option Value
if_value (Ok value) = Some value
if_value (Err fault) = None

unfoldable pub known : SceneParts → ℕ → Option Value
known scene symbol = if_value (symbol_value scene symbol no_memory)

-- of each symbol
unfoldable pub known_values : SceneParts → List (Option Value)
known_values scene = map (known scene) (range_with_len 0 (length scene.symbols))
