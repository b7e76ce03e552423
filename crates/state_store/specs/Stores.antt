-- What a store knows, and what rows of numbers mean by it.
use Rattle.std.specs.Prelude.{◌≡◌, ℕ, ◌+◌, ◌==◌, List, [], ◌∷◌, length, slice_get, Option, Some}
use Rattle.std.specs.Prelude.{None}
use Rattle.std.specs.Prelude.{option_map, option_and_then, if◌then◌else◌}
use Rattle.cap_model.specs.values.CapValue.{CapValue}
use Rattle.cheri_model.specs.declared.trace.Status.{Status}
use Rattle.cheri_model.specs.steps.Hart.{HartState, null}
use Rattle.cheri_model.specs.runs.Machine.{MachineState}
use Rattle.interner.specs.Rows.{Rows}
use Rattle.state_store.specs.Numbered.{Extends, IsDistinct, each}
use Rattle.state_store.specs.Codes.{status_of}

-- values; harts as rows of a status and the numbers of values; memories as rows of such numbers
pub record Stored : Type 0 where
  pub values : List CapValue
  pub harts : List (List ℕ)
  pub memories : List (List ℕ)
  pub granules : ℕ

-- the hart with this status, PCC and registers from c1 on; c0 is null
abbrev pub hart_with : Status → List CapValue → Option HartState
hart_with status [] = None
hart_with status (pcc ∷ regs) =
    if length regs == 31 then Some (record { regs = null ∷ regs; pcc = pcc; status = status })
    else None

-- the hart that a row is
unfoldable pub hart_of : List CapValue → List ℕ → Option HartState
hart_of values [] = None
hart_of values (code ∷ ids) =
    option_and_then (λ status. option_and_then (hart_with status) (each (slice_get values) ids))
    (status_of code)

-- the memory that a row is, of so many granules
unfoldable pub memory_of : List CapValue → ℕ → List ℕ → Option (List CapValue)
memory_of values granules ids =
    if length ids == granules then each (slice_get values) ids else None

-- the hart, and the memory, with this number
unfoldable pub hart_at : Stored → ℕ → Option HartState
hart_at store id = option_and_then (hart_of store.values) (slice_get store.harts id)

unfoldable pub memory_at : Stored → ℕ → Option (List CapValue)
memory_at store id =
    option_and_then (memory_of store.values store.granules) (slice_get store.memories id)

-- the state of a memory's number and those of harts
abbrev pub state_with : Stored → ℕ → List ℕ → Option MachineState
state_with store memory harts =
    option_and_then
    (λ m. option_map (λ hs. record { harts = hs; memory = m }) (each (hart_at store) harts))
    (memory_at store memory)

unfoldable pub state_of : Stored → List ℕ → Option MachineState
state_of store [] = None
state_of store (memory ∷ harts) = state_with store memory harts

-- nothing got another number
pub record Keeps (old new : Stored) : Type 0 where
  pub values : Extends old.values new.values
  pub harts : Extends old.harts new.harts
  pub memories : Extends old.memories new.memories
  pub granules : new.granules ≡ old.granules

-- each state is one row
abbrev pub IsOneRow : Stored → Type 0
IsOneRow store = (m n : List ℕ) (s : MachineState) → state_of store m ≡ Some s →
    state_of store n ≡ Some s → m ≡ n

-- What a store keeps: rows as wide as they are to be, each of them once.
pub record IsStore (values : List CapValue) (harts memories : Rows) (granules : ℕ) : Type 0 where
  pub hart_width : harts.width ≡ 33
  pub memory_width : memories.width ≡ granules
