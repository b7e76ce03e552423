-- Machines whose harts stand in another order.
use Rattle.std.specs.Prelude.{◌≡◌, ℕ, ◌≤◌, Bool, true, length}
use Rattle.cheri_model.specs.runs.Machine.{MachineState, hart_at}

-- The second state is the first one with its harts in another order: its hart i is hart `from i` of
-- the first. Some harts stand where they stood.
pub record IsRenamed (stays : ℕ → Bool) (from : ℕ → ℕ) (one other : MachineState) : Type 0 where
  -- and hart i of the first is hart `to i` of the second
  pub to : ℕ → ℕ
  pub there : (i : ℕ) → to (from i) ≡ i
  pub back : (i : ℕ) → from (to i) ≡ i
  pub staying : (i : ℕ) → stays i ≡ true → from i ≡ i
  pub beyond : (i : ℕ) → length one.harts ≤ i → from i ≡ i
  pub count : length other.harts ≡ length one.harts
  pub harts : (i : ℕ) → hart_at other i ≡ hart_at one (from i)
  pub memory : other.memory ≡ one.memory

-- the same in some order
abbrev pub IsRenaming : (ℕ → Bool) → MachineState → MachineState → Type 0
IsRenaming stays one other = (from : ℕ → ℕ) × IsRenamed stays from one other

-- a function gives each state its harts in some order; and in this one
abbrev pub Renames : (ℕ → Bool) → (MachineState → MachineState) → Type 0
Renames stays choose = (state : MachineState) → IsRenaming stays state (choose state)

abbrev pub RenamesFrom : (ℕ → Bool) → (MachineState → MachineState) → (MachineState → ℕ → ℕ)
    → Type 0
RenamesFrom stays choose from =
    (state : MachineState) → IsRenamed stays (from state) state (choose state)

-- a test of states doesn't depend on the order of the harts but for those that stay
abbrev pub PassesRenamed : (ℕ → Bool) → (MachineState → Bool) → Type 0
PassesRenamed stays passing =
    (one other : MachineState) → IsRenaming stays one other → passing other ≡ passing one
