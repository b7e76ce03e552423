-- Orders and states in which two harts have each other's numbers, and harts that stand for one
-- another.
use Rattle.std.specs.Prelude.{◌≡◌, ℕ, ◌==◌, Bool, true, ◌||◌, if◌then◌else◌}
use Rattle.std.specs.Prelude.{List, length, map, slice_get}
use Rattle.cheri_model.specs.declared.image.HartImage.{HartImage}
use Rattle.cheri_model.specs.declared.operation.Op.{Op}
use Rattle.cheri_model.specs.declared.operation.Op.TheVariants as operation
use Rattle.cheri_model.specs.runs.Machine.{MachineState, hart_at}
use Rattle.hart_order.specs.Arrangements.{are_grouped}

-- the number of a hart, where two harts have each other's
unfoldable pub exchanged : ℕ → ℕ → ℕ → ℕ
exchanged one other hart = if hart == one then other else if hart == other then one else hart

-- an operation, and an order, with these numbers
unfoldable pub exchanged_operation : ℕ → ℕ → Op → Op
exchanged_operation one other (operation.Step hart) = operation.Step (exchanged one other hart)
exchanged_operation one other (operation.Sweep lo hi) = operation.Sweep lo hi

unfoldable pub exchanged_order : ℕ → ℕ → List Op → List Op
exchanged_order one other order = map (exchanged_operation one other) order

-- the second state is the first one with these harts in each other's places
pub record AreExchanged (one other : ℕ) (state after : MachineState) : Type 0 where
  pub count : length after.harts ≡ length state.harts
  pub harts : (hart : ℕ) → hart_at after (exchanged one other hart) ≡ hart_at state hart
  pub memory : after.memory ≡ state.memory

-- the images of two harts are equal
abbrev pub AreEqual : List HartImage → ℕ → ℕ → Type 0
AreEqual harts one other = slice_get harts one ≡ slice_get harts other

-- so are those of all harts of one group
abbrev pub AreGroupsEqual : List HartImage → List ℕ → Type 0
AreGroupsEqual harts groups = (one other : ℕ) → are_grouped groups one other ≡ true →
    AreEqual harts one other

-- a hart stands for itself, and for those of its group
unfoldable pub stands_for : List ℕ → ℕ → ℕ → Bool
stands_for groups one other = (one == other) || are_grouped groups one other
