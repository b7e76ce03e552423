-- Sets of registers, and a hart that keeps those of a set.
use Rattle.std.specs.Prelude.{◌≡◌, ◌≢◌, ℕ, ◌==◌, Bool, true, ◌||◌, if◌then◌else◌, List, map}
use Rattle.std.specs.Prelude.{false, slice_index_or, slice_set}
use Rattle.std.specs.List.{enumerate_from, list_any}
use Rattle.cap_model.specs.values.CapValue.{CapValue}
use Rattle.cheri_model.specs.steps.Hart.{HartState, null}

-- A set says of each register, by its number, whether it is in the set. c0, which is null in every
-- hart, is in each set, and so is a register of which the list says nothing.
abbrev pub has : List Bool → ℕ → Bool
has set reg = (reg == 0) || slice_index_or set reg true

-- some register is not in the set, other than c0
unfoldable pub lacks_any : List Bool → Bool
lacks_any set = list_any (λ member. if member then false else true) (slice_set set 0 true)

-- each register of the first set is in the second
abbrev pub IsWithin : List Bool → List Bool → Type 0
IsWithin small large = (reg : ℕ) → has small reg ≡ true → has large reg ≡ true

-- the same of each register but one
abbrev pub IsWithinBut : List Bool → ℕ → List Bool → Type 0
IsWithinBut small reg large =
    (other : ℕ) → has small other ≡ true → other ≢ reg → has large other ≡ true

-- a register's value, by its number, where it is in the set, and else null
abbrev pub kept_value : List Bool → (ℕ × CapValue) → CapValue
kept_value set numbered = if has set numbered.0 then numbered.1 else null

-- the registers with each that is not in the set null
unfoldable pub kept : List Bool → List CapValue → List CapValue
kept set regs = map (kept_value set) (enumerate_from 0 regs)

-- the hart with these; PCC and status stay
unfoldable pub forgotten : List Bool → HartState → HartState
forgotten set hart = record hart { regs = kept set hart.regs }
