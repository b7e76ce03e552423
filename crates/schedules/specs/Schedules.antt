-- The graph of an image. Its labels are numbers: first the harts, then the sweeps in the order
-- given.
use Rattle.std.specs.Prelude.{◌≡◌, ℕ, ◌+◌, ◌-◌, nat_lt, if◌then◌else◌, List, [], ◌∷◌, length}
use Rattle.std.specs.Prelude.{slice_get, Option, Some, None, option_map}
use Rattle.cheri_model.specs.declared.operation.Op.{Op}
use Rattle.cheri_model.specs.declared.operation.Op.TheVariants as operation
use Rattle.cheri_model.specs.runs.Image.{ImageParts}
use Rattle.cheri_model.specs.runs.Machine.{MachineState, may_take, state_after_one}
use Rattle.schedules.specs.declared.ranges.SweepRange.{SweepRange}

-- the sweep of a range
abbrev pub sweep_of : SweepRange → Op
sweep_of range = operation.Sweep range.lo range.hi

-- the operation of a label: a step of the hart with this number, or a sweep
unfoldable pub operation_of_label : ImageParts → List SweepRange → ℕ → Option Op
operation_of_label image sweeps label =
    if nat_lt label (length image.harts) then Some (operation.Step label)
    else option_map sweep_of (slice_get sweeps (label - length image.harts))

-- the state after an operation, where it may be taken
unfoldable pub taken : ImageParts → MachineState → Option Op → Option MachineState
taken image state None = None
taken image state (Some op) =
    if may_take state op then Some (state_after_one image state op) else None

-- where a label leads
unfoldable pub next : ImageParts → List SweepRange → MachineState → ℕ → Option MachineState
next image sweeps state label = taken image state (operation_of_label image sweeps label)

-- how many labels there are
abbrev pub label_count : ImageParts → List SweepRange → ℕ
label_count image sweeps = length image.harts + length sweeps

-- the labels are those of the operations, one by one
abbrev pub AreLabelsOf : ImageParts → List SweepRange → List ℕ → List Op → Type 0
AreLabelsOf image sweeps [] [] = Unit {0}
AreLabelsOf image sweeps [] (op ∷ ops) = ⊥
AreLabelsOf image sweeps (l ∷ ls) [] = ⊥
AreLabelsOf image sweeps (l ∷ ls) (op ∷ ops) =
    (operation_of_label image sweeps l ≡ Some op) × AreLabelsOf image sweeps ls ops

-- an operation is a step, or one of the sweeps
abbrev pub IsAllowed : List SweepRange → Op → Type 0
IsAllowed sweeps (operation.Step hart) = Unit {0}
IsAllowed sweeps (operation.Sweep lo hi) =
    (k : ℕ) × (slice_get sweeps k ≡ Some (record { lo = lo; hi = hi }))

abbrev pub AreAllowed : List SweepRange → List Op → Type 0
AreAllowed sweeps [] = Unit {0}
AreAllowed sweeps (op ∷ ops) = IsAllowed sweeps op × AreAllowed sweeps ops
