-- A stretch of a program: instructions that follow one another from a hart's PC on, and what as
-- many steps of the hart leave.
use Rattle.std.specs.Prelude.{◌≡◌, ℕ, zero, suc, ◌+◌, ◌*◌, ◌%◌, ◌^◌, ◌≤◌, true, List, ◌++◌}
use Rattle.std.specs.Prelude.{length, drop, slice_set}
use Rattle.cheri_model.specs.declared.code.TheConstants.{INSTRUCTION_BYTES}
use Rattle.cheri_model.specs.declared.image.TheConstants.{MAX_INSTRUCTIONS}
use Rattle.cheri_model.specs.declared.instr.Instr.{Instr}
use Rattle.cap_model.specs.declared.permission.TheConstants.{EXECUTE}
use Rattle.cap_model.specs.values.CapValue.{CapValue}
use Rattle.cap_model.specs.results.Addresses.{address_of, with_address, is_open, has_permission}
use Rattle.cap_model.specs.results.Addresses.{in_bounds}
use Rattle.cheri_model.specs.steps.Checks.{code_base}
use Rattle.cheri_model.specs.steps.Hart.{HartState, null, register}
use Rattle.cheri_model.specs.steps.HartStep.{Stepped, done, hart_step}
use Rattle.cheri_model.specs.runs.Machine.{MachineState}

-- The instructions stand in the program from the hart's PC on, and PCC may execute them all.
pub record StandsAt (program : List Instr) (instrs : List Instr) (hart : HartState) : Type 0 where
  pub number : ℕ
  pub rest : List Instr
  pub inside : number ≤ length program
  pub there : drop number program ≡ instrs ++ rest
  pub size : length program ≤ MAX_INSTRUCTIONS
  pub place : address_of hart.pcc ≡ code_base + INSTRUCTION_BYTES * number
  pub opened : is_open hart.pcc ≡ true
  pub executes : has_permission hart.pcc EXECUTE ≡ true
  pub within : in_bounds hart.pcc (address_of hart.pcc) (INSTRUCTION_BYTES * length instrs) ≡ true

-- a hart's registers: 32, of which c0 is null
pub record HasRegisters (hart : HartState) : Type 0 where
  pub count : length hart.regs ≡ 32
  pub zero : register hart 0 ≡ null

-- what so many steps of a hart leave, the first of which begins with what another step left
unfoldable pub after_steps : List Instr → ℕ → Stepped → Stepped
after_steps program zero before = before
after_steps program (suc n) before =
    after_steps program n (hart_step program before.hart before.memory)

-- the hart with PC behind so many instructions
unfoldable pub behind : ℕ → HartState → HartState
behind n hart =
    record hart {
      pcc = with_address hart.pcc ((address_of hart.pcc + INSTRUCTION_BYTES * n) % 2 ^ 64);
    }

-- After as many steps as there are instructions PC is behind them, and this is the hart; memory is
-- as it was.
abbrev pub Leaves : List Instr → List Instr → HartState → List CapValue → HartState → Type 0
Leaves program instrs hart memory after =
    after_steps program (length instrs) (done hart memory)
    ≡ done (behind (length instrs) after) memory

-- the machine with what steps of one of its harts left
unfoldable pub with_hart : MachineState → ℕ → Stepped → MachineState
with_hart state number after =
    record { harts = slice_set state.harts number after.hart; memory = after.memory }
