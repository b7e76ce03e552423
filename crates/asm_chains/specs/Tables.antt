-- Expressions by a table of the values of symbols, and the fault of a symbol that has none there.
use Rattle.std.specs.Prelude.{◌≡◌, ℕ, zero, suc, if◌then◌else◌, List, [], ◌∷◌, length}
use Rattle.std.specs.Prelude.{slice_index_or}
use Rattle.std.specs.Prelude.{Option, Some, None, Result, Ok, Err}
use Rattle.asm_tokens.specs.declared.fault.AsmFaultKind.TheVariants as faults
use Rattle.asm_values.specs.declared.values.Value.{Value}
use Rattle.asm_expressions.specs.declared.node.Node.{Node}
use Rattle.asm_expressions.specs.declared.values.ValueFault.{ValueFault}
use Rattle.asm_expressions.specs.declared.values.ValueFault.TheVariants.{Operator, Name, NoMemory}
use Rattle.asm_chains.specs.declared.scene.LateFault.{LateFault}
use Rattle.asm_chains.specs.declared.scene.Setting.{Setting}
use Rattle.asm_chains.specs.declared.table.Lack.{Lack}
use Rattle.asm_chains.specs.declared.table.Lack.TheVariants.{NoName, NoValue}
use Rattle.asm_chains.specs.declared.table.Lead.{Lead}
use Rattle.asm_chains.specs.declared.table.Lead.TheVariants.{Ends, Leads}
use Rattle.asm_chains.specs.Chains.{is_open}
use Rattle.asm_chains.specs.Faults.{fault_in, no_memory}
use Rattle.asm_chains.specs.Scenes.{SceneParts, symbol_at, symbol_worked_out, worked_out}

-- the value of a symbol in a table
abbrev pub value_at : List (Option Value) → ℕ → Option Value
value_at values symbol = slice_index_or values symbol None

abbrev pub or_lack : Option Value → ℕ → ℕ → Result Value Lack
or_lack (Some value) symbol at = Ok value
or_lack None symbol at = Err (NoValue symbol at)

abbrev pub in_table : List (Option Value) → ℕ → ℕ → Result Value Lack
in_table values symbol at = or_lack (value_at values symbol) symbol at

abbrev pub no_name : ℕ → Lack
no_name at = NoName at

-- an expression, and a symbol, by the table
unfoldable pub by_table : SceneParts → List (Option Value) → Setting → List Node
    → Result Value (ValueFault Lack)
by_table scene values setting nodes =
    worked_out scene (in_table values) no_name setting nodes

unfoldable pub symbol_by_table : SceneParts → List (Option Value) → ℕ
    → Result Value (ValueFault Lack)
symbol_by_table scene values symbol =
    symbol_worked_out scene (in_table values) no_name (symbol_at scene symbol)

-- the fault of an expression that has no value by the table: its own, or that of the first symbol
-- without a value, told where this stands if it is met again
abbrev pub lead_by : Setting → LateFault → Result Value (ValueFault Lack) → Lead
lead_by setting told (Ok value) = Ends told
lead_by setting told (Err (Operator at)) = Ends (fault_in setting faults.Expression at)
lead_by setting told (Err (Name (NoName at))) = Ends (fault_in setting faults.Symbol at)
lead_by setting told (Err (Name (NoValue symbol at))) =
    Leads symbol (fault_in setting faults.Expression at)
lead_by setting told (Err NoMemory) = Ends no_memory

-- the same by an answer that may be out of memory, which its code says with an error
abbrev pub LeadsBy : {E : Type 0} → Result Lead E → Setting → LateFault
    → Result Value (ValueFault Lack) → Type 0
LeadsBy (Ok lead) setting told outcome =
    (lead_by setting told outcome ≡ lead) × (outcome ≡ Err NoMemory → ⊥)
LeadsBy (Err refused) setting told outcome = outcome ≡ Err NoMemory

unfoldable pub lead_of : SceneParts → List (Option Value) → ℕ → LateFault → Lead
lead_of scene values symbol told =
    lead_by (symbol_at scene symbol).setting told (symbol_by_table scene values symbol)

abbrev pub followed : (ℕ → LateFault → LateFault) → Lead → LateFault
followed symbols (Ends fault) = fault
followed symbols (Leads symbol again) = symbols symbol again

-- the fault of a symbol, with those on the way to it
unfoldable pub fault_on : SceneParts → List (Option Value) → ℕ → List ℕ → ℕ → LateFault → LateFault
fault_on scene values zero way symbol again = again
fault_on scene values (suc more) way symbol again =
    if is_open scene way symbol
    then followed (fault_on scene values more (symbol ∷ way)) (lead_of scene values symbol again)
    else again

unfoldable pub symbol_fault : SceneParts → List (Option Value) → ℕ → LateFault → LateFault
symbol_fault scene values symbol again =
    fault_on scene values (length scene.symbols) [] symbol again

-- the value of an expression, or its fault
abbrev pub value_or_fault : (ℕ → LateFault → LateFault) → Setting → Result Value (ValueFault Lack)
    → Result Value LateFault
value_or_fault symbols setting (Ok value) = Ok value
value_or_fault symbols setting (Err fault) =
    Err (followed symbols (lead_by setting no_memory (Err fault)))

unfoldable pub late_value : SceneParts → List (Option Value) → Setting → List Node
    → Result Value LateFault
late_value scene values setting nodes =
    value_or_fault (symbol_fault scene values) setting (by_table scene values setting nodes)

-- the same of a symbol, whose name is where `again` is
abbrev pub symbol_or_fault : SceneParts → List (Option Value) → ℕ → LateFault → Option Value
    → Result Value LateFault
symbol_or_fault scene values symbol again (Some value) = Ok value
symbol_or_fault scene values symbol again None = Err (symbol_fault scene values symbol again)

unfoldable pub late_symbol : SceneParts → List (Option Value) → ℕ → LateFault
    → Result Value LateFault
late_symbol scene values symbol again =
    symbol_or_fault scene values symbol again (value_at values symbol)
