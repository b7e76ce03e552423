-- The registers that matter to a hart: those that a question looks at, and those that some way from
-- here reads before it writes them, but for what only serves to compute others.
use Rattle.std.specs.Prelude.{◌≡◌, ℕ, ◌-◌, ◌/◌, ◌%◌, ◌==◌, nat_le, Bool, true, false, ◌&&◌}
use Rattle.std.specs.Prelude.{if◌then◌else◌, List, All, slice_get, slice_index_or, Some, ◌⊎◌}
use Rattle.std.specs.List.{list_any}
use Rattle.cap_model.specs.values.CapValue.{tag_of}
use Rattle.cap_model.specs.results.Addresses.{address_of}
use Rattle.cheri_model.specs.declared.code.TheConstants.{INSTRUCTION_BYTES}
use Rattle.cheri_model.specs.declared.form.Form.{Form}
use Rattle.cheri_model.specs.declared.instr.Instr.{Instr}
use Rattle.cheri_model.specs.instructions.Form.{form_of}
use Rattle.cheri_model.specs.runs.Machine.{is_running}
use Rattle.cheri_model.specs.steps.Checks.{code_base}
use Rattle.cheri_model.specs.steps.Hart.{HartState}
use Rattle.live_registers.specs.RegisterSets.{has, lacks_any, IsWithin, IsWithinBut, forgotten}
use Rattle.live_registers.specs.Operands.{reads, writes, only_computes, way_of, may_lead_to}

-- the registers that a question looks at in any hart, and of each instruction those that matter
-- before it
pub record LiveSets : Type 0 where
  pub asked : List Bool
  pub sets : List (List Bool)

-- those that matter before the instruction at an address; where there is none the hart traps, and
-- only the question looks at it then
unfoldable pub set_at : LiveSets → ℕ → List Bool
set_at live addr =
    if nat_le code_base addr && (addr % INSTRUCTION_BYTES == 0)
    then slice_index_or live.sets ((addr - code_base) / INSTRUCTION_BYTES) live.asked
    else live.asked

-- those that matter to a hart; one that has stopped takes no step, and one whose PCC is untagged
-- traps by its next
unfoldable pub set_of : LiveSets → HartState → List Bool
set_of live hart =
    if is_running hart.status && tag_of hart.pcc then set_at live (address_of hart.pcc)
    else live.asked

-- the hart with each register that doesn't matter null
unfoldable pub forgotten_hart : LiveSets → HartState → HartState
forgotten_hart live hart = forgotten (set_of live hart) hart

-- some register doesn't matter before some instruction
unfoldable pub forgets_any : LiveSets → Bool
forgets_any live = list_any lacks_any live.sets

-- an instruction's register matters in no place behind it
abbrev pub IsUnneeded : LiveSets → ℕ → Form → Type 0
IsUnneeded live number form =
    (addr : ℕ) → may_lead_to (way_of form) number addr ≡ true →
    (writes form ≡ 0) ⊎ (has (set_at live addr) (writes form) ≡ false)

-- What is right before an instruction with this number: there matters what matters behind it, but
-- for the register that it writes; and what it reads, if it isn't there just for a register that
-- doesn't matter.
pub record IsRightBefore (live : LiveSets) (number : ℕ) (form : Form) (set : List Bool) : Type 0
  where
    pub later : (addr : ℕ) → may_lead_to (way_of form) number addr ≡ true →
        IsWithinBut (set_at live addr) (writes form) set
    pub read : ((only_computes form ≡ true) × IsUnneeded live number form)
        ⊎ ((has set (reads form).0 ≡ true) × (has set (reads form).1 ≡ true))

-- What the sets of a program are: before each instruction matters what the question looks at, and
-- what is right there.
pub record IsRight (program : List Instr) (live : LiveSets) : Type 0 where
  pub asked : All (IsWithin live.asked) live.sets
  pub before : (number : ℕ) (instr : Instr) → slice_get program number ≡ Some instr →
      IsRightBefore live number (form_of instr) (slice_index_or live.sets number live.asked)
