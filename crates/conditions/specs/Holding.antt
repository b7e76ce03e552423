-- In which states a condition holds.
use Rattle.std.specs.Prelude.{ℕ, ◌+◌, Bool, not, ◌&&◌, ◌||◌, if◌then◌else◌, List, length, zero, suc}
use Rattle.cheri_model.specs.runs.Machine.{MachineState}
use Rattle.conditions.specs.declared.parts.Joint.{Joint}
use Rattle.conditions.specs.declared.parts.Joint.TheVariants.{And, Or}
use Rattle.conditions.specs.declared.parts.Node.{Node}
use Rattle.conditions.specs.Formulas.{Formula, says, deny, enclosed, join, counted, formula_of}
use Rattle.conditions.specs.Values.{compares, atom_holds}

unfoldable pub joined : Joint → Bool → Bool → Bool
joined And x y = x && y
joined Or x y = x || y

-- one answer that decides what both are
unfoldable pub decides : Joint → Bool → Bool
decides And x = not x
decides Or x = x

-- of how many of the first numbers something holds
unfoldable pub how_many : (ℕ → Bool) → ℕ → ℕ
how_many holding zero = 0
how_many holding (suc n) = how_many holding n + (if holding n then 1 else 0)

-- a condition holds in a state, where `h` is the hart of this number
unfoldable pub is_so : MachineState → ℕ → Formula → Bool
is_so state each (says a) = atom_holds state each a
is_so state each (deny f) = not (is_so state each f)
is_so state each (enclosed f) = is_so state each f
is_so state each (join joint f g) = joined joint (is_so state each f) (is_so state each g)
is_so state each (counted f comparison number) =
    compares comparison (how_many (λ hart. is_so state hart f) (length state.harts)) number

-- outside of all counts there is no `h`
unfoldable pub holds : MachineState → List Node → Bool
holds state nodes = is_so state 0 (formula_of nodes)
