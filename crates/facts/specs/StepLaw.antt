-- What the facts of a step tell of a trap and of a lost tag: that they tell it where it was, and
-- that it is so.
use Rattle.std.specs.Prelude.{◌≡◌, ℕ, Bool, true, false, not, ◌&&◌, List, Option, Some}
use Rattle.std.specs.Prelude.{None}
use Rattle.cap_model.specs.declared.permission.TheConstants as permission
use Rattle.cap_model.specs.values.CapValue.{CapValue, tag_of}
use Rattle.cap_model.specs.results.Addresses.{address_of, has_permission}
use Rattle.cheri_model.specs.declared.instr.Instr.{Instr}
use Rattle.cheri_model.specs.declared.trace.Outcome.{Outcome}
use Rattle.cheri_model.specs.declared.trace.Outcome.TheVariants as outcome
use Rattle.cheri_model.specs.steps.Hart.{HartState, register}
use Rattle.cheri_model.specs.steps.Memory.{load_capability}
use Rattle.cheri_model.specs.steps.Actions.{Action, Put, Store, LoadCap, Swap, action}
use Rattle.cheri_model.specs.steps.HartStep.{Stepped, hart_step, instruction_at}
use Rattle.origins.specs.declared.place.Spot.TheVariants.{Register}
use Rattle.origins.specs.Places.{value_at_spot}
use Rattle.facts.specs.declared.step_facts.Cleared.{Cleared}
use Rattle.facts.specs.declared.step_facts.Trapped.{Trapped}
use Rattle.facts.specs.declared.why.Why.{Why}
use Rattle.facts.specs.declared.why.Why.TheVariants as why
use Rattle.facts.specs.Operands.{Derivation, derivation_of}
use Rattle.facts.specs.Stepping.{IsNotTrap}
use Rattle.facts.specs.ClearsLaw.{loses_tag, IsReason}
use Rattle.facts.specs.TrapsLaw.{IsTrapSo}

-- what is told of a step's trap: nothing where it did not trap, else its trap, for a reason that
-- holds before the step, in a program of this many instructions
abbrev pub IsTrapTold : ℕ → HartState → List CapValue → Outcome → Option Trapped → Type 0
IsTrapTold count hart memory result None = IsNotTrap result
IsTrapTold count hart memory result (Some told) =
    (result ≡ outcome.Trap told.trap) × IsTrapSo count hart memory told.why

abbrev pub is_trap : Outcome → Bool
is_trap outcome.Done = false
is_trap outcome.Halt = false
is_trap (outcome.Trap trap) = true

-- whether the step of a hart loses a tag: one that traps loses none
abbrev pub step_loses_tag : List Instr → HartState → List CapValue → Bool
step_loses_tag program hart memory =
    not (is_trap (hart_step program hart memory).outcome)
    && loses_tag (instruction_at program (address_of hart.pcc)) hart memory

-- why a load through a register lost a tag: the register lacks Load_Capability
abbrev pub IsLoadLoss : ℕ → HartState → Why → Type 0
IsLoadLoss c1 hart reason =
    (reason ≡ why.Lacks (Register c1) permission.LOAD_CAP)
    × (has_permission (register hart c1) permission.LOAD_CAP ≡ false)

-- why an action lost a tag: the first reason of the table of the instruction that it comes from,
-- what a load lacked, or data stored over a capability
abbrev pub IsLoss : Action → Option Derivation → HartState → List CapValue → Why → Type 0
IsLoss (Put cd v) (Some d) hart memory reason = IsReason d.0 d.1 reason
IsLoss (Put cd v) None hart memory reason = ⊥
IsLoss (LoadCap cd c1 addr) d hart memory reason = IsLoadLoss c1 hart reason
IsLoss (Swap cd c1 addr v) d hart memory reason = IsLoadLoss c1 hart reason
IsLoss (Store c1 addr width number) d hart memory reason =
    (reason ≡ why.DataStored) × (tag_of (load_capability memory addr) ≡ true)
IsLoss _ d hart memory reason = ⊥

-- a lost tag that is told: the instruction lost one, for a reason that holds before the step, and
-- what is named has no tag after it
pub record IsLost (i : Instr) (hart : HartState) (memory : List CapValue) (after : Stepped)
    (told : Cleared) : Type 0 where
  pub so : IsLoss (action i hart) (derivation_of i hart) hart memory told.why
  pub gone : tag_of (value_at_spot after.hart after.memory told.name) ≡ false

-- what is told of a step's lost tag: nothing where it lost none
abbrev pub IsLossTold : List Instr → HartState → List CapValue → Option Cleared → Type 0
IsLossTold program hart memory None = step_loses_tag program hart memory ≡ false
IsLossTold program hart memory (Some told) =
    (step_loses_tag program hart memory ≡ true)
    × IsLost (instruction_at program (address_of hart.pcc)) hart memory
    (hart_step program hart memory) told
