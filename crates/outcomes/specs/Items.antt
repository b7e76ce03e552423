-- What items hold in a state, and the numbers that stand for it.
use Rattle.std.specs.Prelude.{ℕ, ◌/◌, ◌%◌, ◌^◌, List, [], ◌∷◌, ◌++◌, map}
use Rattle.cheri_model.specs.declared.trace.Status.{Status}
use Rattle.cheri_model.specs.declared.trace.Status.TheVariants as status
use Rattle.cheri_model.specs.runs.Machine.{MachineState, hart_at}
use Rattle.conditions.specs.declared.parts.Shown.{Shown}
use Rattle.conditions.specs.declared.parts.Shown.TheVariants as shown
use Rattle.conditions.specs.Values.{number_at}
use Rattle.outcomes.specs.declared.items.ItemValue.{ItemValue}
use Rattle.outcomes.specs.declared.items.ItemValue.TheVariants.{Number, Running, Halted, Trapped}

-- of a trap only the cause is told
unfoldable pub status_value : Status → ItemValue
status_value status.Running = Running
status_value status.Halted = Halted
status_value (status.Trapped trap) = Trapped trap.cause

unfoldable pub value_of : MachineState → Shown → ItemValue
value_of state (shown.Number place) = Number (number_at place state)
value_of state (shown.Status hart) = status_value (hart_at state hart).status

-- the row of values that items hold in a state
unfoldable pub values_of : List Shown → MachineState → List ItemValue
values_of items state = map (value_of state) items

-- ---- the numbers that stand for values, five each

-- a kind, and the four digits of a number at base 2^32
abbrev pub above : ℕ → ℕ
above number = number / 2 ^ 32

abbrev pub digit : ℕ → ℕ
digit number = number % 2 ^ 32

abbrev pub five : ℕ → ℕ → List ℕ
five kind number =
    kind ∷ above (above (above number)) ∷ digit (above (above number)) ∷ digit (above number)
    ∷ digit number ∷ []

unfoldable pub code_of : ItemValue → List ℕ
code_of (Number number) = five 0 number
code_of Running = five 1 0
code_of Halted = five 2 0
code_of (Trapped cause) = five 3 cause

unfoldable pub codes_of : List ItemValue → List ℕ
codes_of [] = []
codes_of (v ∷ vs) = code_of v ++ codes_of vs
