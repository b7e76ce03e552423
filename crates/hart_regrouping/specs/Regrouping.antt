-- Machines whose harts stand under other numbers of their own group.
use Rattle.std.specs.Prelude.{◌≡◌, ℕ, ◌<◌, List, length}
use Rattle.cheri_model.specs.runs.Machine.{MachineState, hart_at}
use Rattle.cheri_model.specs.steps.Hart.{HartState, register}
use Rattle.hart_order.specs.Arrangements.{group_of}
use Rattle.hart_order.specs.GroupedTurns.{keeps_number}
use Rattle.hart_symmetry.specs.Renaming.{IsRenamed}

-- each number is one of the group of its own
abbrev pub KeepsGroups : List ℕ → (ℕ → ℕ) → Type 0
KeepsGroups groups from = (i : ℕ) → group_of groups (from i) ≡ group_of groups i

-- The second state is the first one with its harts under other numbers: its hart i is hart `from i`
-- of the first, which is of the same group. Harts of no group keep their numbers.
abbrev pub IsRegrouped : List ℕ → (ℕ → ℕ) → MachineState → MachineState → Type 0
IsRegrouped groups from one other =
    IsRenamed (keeps_number groups) from one other × KeepsGroups groups from

-- the same in some order
abbrev pub IsRegrouping : List ℕ → MachineState → MachineState → Type 0
IsRegrouping groups one other = (from : ℕ → ℕ) × IsRegrouped groups from one other

-- two harts hold the same, and stand alike
pub record HoldSame (one other : HartState) : Type 0 where
  pub status : other.status ≡ one.status
  pub pcc : other.pcc ≡ one.pcc
  pub registers : (reg : ℕ) → reg < 32 → register other reg ≡ register one reg

-- The states differ in nothing but which hart of a group stands where: hart i of the second holds
-- what hart `from i` of the first does, which is of the same group, and hart i itself where it is
-- of none.
pub record AreAlike (groups : List ℕ) (one other : MachineState) : Type 0 where
  pub from : ℕ → ℕ
  pub to : ℕ → ℕ
  pub there : (i : ℕ) → to (from i) ≡ i
  pub back : (i : ℕ) → from (to i) ≡ i
  pub staying : (i : ℕ) → group_of groups i ≡ 0 → from i ≡ i
  pub grouped : KeepsGroups groups from
  pub count : length other.harts ≡ length one.harts
  pub harts : (i : ℕ) → HoldSame (hart_at one (from i)) (hart_at other i)
  pub memory : other.memory ≡ one.memory
