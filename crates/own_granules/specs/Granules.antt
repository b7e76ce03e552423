-- Granules that are shared, and who may touch the others. Which are shared is a test of their
-- numbers; the owner of each of the others is the only hart that may touch it, or there is none,
-- and then nobody may write it. A granule that isn't shared holds nothing that a sweep would clear.
use Rattle.std.specs.List.{list_all}
use Rattle.std.specs.Prelude.{ℕ, suc, ◌/◌, ◌==◌, Bool, true, false, not, ◌&&◌, ◌||◌, List, [], ◌∷◌}
use Rattle.std.specs.Prelude.{length}
use Rattle.std.specs.Prelude.{Option, Some, None}
use Rattle.cap_model.specs.results.Addresses.{address_of}
use Rattle.cap_model.specs.results.Swept.{is_in_sweep}
use Rattle.cap_model.specs.values.CapValue.{CapValue}
use Rattle.cheri_model.specs.declared.instr.Instr.{Instr}
use Rattle.cheri_model.specs.declared.memory.TheConstants.{GRANULE_BYTES}
use Rattle.cheri_model.specs.declared.operation.Op.TheVariants as operation
use Rattle.cheri_model.specs.runs.Image.{ImageParts}
use Rattle.cheri_model.specs.runs.Machine.{MachineState, hart_at, may_take, stepped}
use Rattle.cheri_model.specs.steps.Actions.{Action, Put, Load, Store, LoadCap, StoreCap, Swap}
use Rattle.cheri_model.specs.steps.Actions.{Branch, Jump, JumpThrough, Invoke, Halt, action}
use Rattle.cheri_model.specs.steps.Checks.{first_failing, fetch_table}
use Rattle.cheri_model.specs.steps.Hart.{HartState}
use Rattle.cheri_model.specs.steps.HartStep.{hart_step, instruction_at}
use Rattle.cheri_model.specs.steps.Memory.{granule_at}
use Rattle.explore_turns.specs.QuietSteps.{asks_memory, is_whole, where_fetched}
use Rattle.schedules.specs.declared.ranges.SweepRange.{SweepRange}
use Rattle.states.specs.Locals.{touched}

-- stores and swaps, also those that trap
abbrev pub is_store : Action → Bool
is_store (Put cd v) = false
is_store (Load cd c1 addr width signed) = false
is_store (Store c1 addr width number) = true
is_store (LoadCap cd c1 addr) = false
is_store (StoreCap c1 addr v) = true
is_store (Swap cd c1 addr v) = true
is_store (Branch taken target) = false
is_store (Jump cd target) = false
is_store (JumpThrough cd c1 is_entry target) = false
is_store (Invoke c1 c2 target) = false
is_store Halt = false

-- the next step fetches an instruction, and this asks for a store or a swap
unfoldable pub asks_store : List Instr → HartState → Bool
asks_store program hart =
    where_fetched (first_failing (fetch_table hart.pcc (length program)))
    (is_store (action (instruction_at program (address_of hart.pcc)) hart))

-- how many granules the memory of an image has
abbrev pub granules_of : ImageParts → ℕ
granules_of image = image.ram / GRANULE_BYTES

-- the granule that the next step of a hart may touch
abbrev pub granule_of : ImageParts → HartState → ℕ
granule_of image hart = touched image.program (granules_of image) hart

-- the next step asks for no access to a shared granule
unfoldable pub is_private : ImageParts → (ℕ → Bool) → HartState → Bool
is_private image shared hart =
    not (asks_memory image.program hart) || not (shared (granule_of image hart))

-- neither a sweep nor the question sees a step of a hart that is this before and after
abbrev pub is_unseen : List SweepRange → (HartState → HartState → Bool) → HartState → HartState
    → Bool
is_unseen sweeps hides before after =
    is_whole sweeps before && (is_whole sweeps after && hides before after)

-- Whether this hart's step in this state is quiet: the hart runs, the step asks for no access to a
-- shared granule, and neither a sweep nor the question sees it.
unfoldable pub is_quiet : ImageParts → List SweepRange → (ℕ → Bool) → (HartState → HartState → Bool)
    → MachineState → ℕ → Bool
is_quiet image sweeps shared hides state number =
    may_take state (operation.Step number) && (is_private image shared (hart_at state number)
    && is_unseen sweeps hides (hart_at state number) (stepped image state number).hart)

-- a hart may touch a granule of this owner, by a step that stores or doesn't
abbrev pub may_touch : Option ℕ → ℕ → Bool → Bool
may_touch None number stores = not stores
may_touch (Some owner) number stores = owner == number

-- the next step of the hart with this number asks for no access, or for one to a shared granule, or
-- for one that the owner of its granule lets it make
unfoldable pub respects : ImageParts → (ℕ → Bool) → (ℕ → Option ℕ) → ℕ → HartState → Bool
respects image shared owner number hart =
    not (asks_memory image.program hart) || (shared (granule_of image hart)
    || may_touch (owner (granule_of image hart)) number (asks_store image.program hart))

-- no sweep of these clears the tag of a value
unfoldable pub is_kept : List SweepRange → CapValue → Bool
is_kept sweeps v = list_all (λ range. not (is_in_sweep range.lo range.hi v)) sweeps

-- no sweep clears a tag in a granule that isn't shared; the first is the granule with this number
unfoldable pub are_kept : List SweepRange → (ℕ → Bool) → ℕ → List CapValue → Bool
are_kept sweeps shared number [] = true
are_kept sweeps shared number (v ∷ values) =
    (shared number || is_kept sweeps v) && are_kept sweeps shared (suc number) values

-- the next step of the hart leaves such a value in the granule that it touches, or that is shared
unfoldable pub leaves_kept : ImageParts → List SweepRange → (ℕ → Bool) → HartState → List CapValue
    → Bool
leaves_kept image sweeps shared hart memory =
    not (asks_memory image.program hart) || (shared (granule_of image hart)
    || is_kept sweeps (granule_at (hart_step image.program hart memory).memory
    (granule_of image hart)))

-- the next step of this hart respects owners, and leaves nothing to sweeps
abbrev pub respects_in : ImageParts → List SweepRange → (ℕ → Bool) → (ℕ → Option ℕ) → MachineState
    → ℕ → Bool
respects_in image sweeps shared owner state number =
    respects image shared owner number (hart_at state number)
    && leaves_kept image sweeps shared (hart_at state number) state.memory
