-- Quiet steps: those that no other hart, no sweep and no question can see. What a question sees of
-- a step is a test of the hart before and after it, true where it sees nothing.
use Rattle.std.specs.Prelude.{ℕ, zero, suc, ◌==◌, Bool, true, false, not, ◌&&◌, if◌then◌else◌}
use Rattle.std.specs.List.{list_all}
use Rattle.std.specs.Prelude.{List, [], length, Option, Some, None, unwrap_or, Result, Ok, Err}
use Rattle.cap_model.specs.results.Addresses.{address_of}
use Rattle.cheri_model.specs.declared.instr.Instr.{Instr}
use Rattle.cheri_model.specs.declared.trace.Trap.{Trap}
use Rattle.cheri_model.specs.runs.Machine.{is_running}
use Rattle.cheri_model.specs.runs.Sweeps.{cleared_in_hart}
use Rattle.cheri_model.specs.steps.Actions.{Action, Put, Load, Store, LoadCap, StoreCap, Swap}
use Rattle.cheri_model.specs.steps.Actions.{Branch, Jump, JumpThrough, Invoke, Halt, action}
use Rattle.cheri_model.specs.steps.Checks.{first_failing, fetch_table}
use Rattle.cheri_model.specs.steps.Hart.{HartState}
use Rattle.cheri_model.specs.steps.HartStep.{hart_step, instruction_at}
use Rattle.schedules.specs.declared.ranges.SweepRange.{SweepRange}

-- loads, stores and swaps, also those that trap
abbrev pub is_access : Action → Bool
is_access (Put cd v) = false
is_access (Load cd c1 addr width signed) = true
is_access (Store c1 addr width number) = true
is_access (LoadCap cd c1 addr) = true
is_access (StoreCap c1 addr v) = true
is_access (Swap cd c1 addr v) = true
is_access (Branch taken target) = false
is_access (Jump cd target) = false
is_access (JumpThrough cd c1 is_entry target) = false
is_access (Invoke c1 c2 target) = false
is_access Halt = false

-- what holds where a fetch passes, and false where it traps
abbrev pub where_fetched : Result (Unit {0}) Trap → Bool → Bool
where_fetched (Ok u) holds = holds
where_fetched (Err trap) holds = false

-- the next step fetches an instruction, and this asks for an access
unfoldable pub asks_memory : List Instr → HartState → Bool
asks_memory program hart =
    where_fetched (first_failing (fetch_table hart.pcc (length program)))
    (is_access (action (instruction_at program (address_of hart.pcc)) hart))

-- what the next step makes of the hart, where it asks for no access
unfoldable pub own_step : List Instr → HartState → HartState
own_step program hart = (hart_step program hart []).hart

-- no sweep of these clears a tag of the hart
abbrev pub is_whole : List SweepRange → HartState → Bool
is_whole sweeps hart = list_all (λ range. cleared_in_hart range.lo range.hi hart == 0) sweeps

-- the hart runs, and its next step asks for no access, changes nothing that a sweep would, and
-- isn't seen
unfoldable pub is_quiet : List Instr → List SweepRange → (HartState → HartState → Bool) → HartState
    → Bool
is_quiet program sweeps hides hart =
    is_running hart.status && (not (asks_memory program hart) && (is_whole sweeps hart
    && (is_whole sweeps (own_step program hart) && hides hart (own_step program hart))))

-- where at most so many quiet steps lead, if there are no more of them
unfoldable pub come : List Instr → List SweepRange → (HartState → HartState → Bool) → ℕ → HartState
    → Option HartState
come program sweeps hides zero hart =
    if is_quiet program sweeps hides hart then None else Some hart
come program sweeps hides (suc k) hart =
    if is_quiet program sweeps hides hart
    then come program sweeps hides k (own_step program hart) else Some hart

-- The hart at its rest: after its quiet steps, where there are at most so many. Where there are
-- more, it rests where it is.
unfoldable pub rest : List Instr → List SweepRange → (HartState → HartState → Bool) → ℕ → HartState
    → HartState
rest program sweeps hides most hart = unwrap_or (come program sweeps hides most hart) hart

-- how many quiet steps there are, and at most so many
unfoldable pub steps_to_rest : List Instr → List SweepRange → (HartState → HartState → Bool) → ℕ
    → HartState → ℕ
steps_to_rest program sweeps hides zero hart = 0
steps_to_rest program sweeps hides (suc k) hart =
    if is_quiet program sweeps hides hart
    then suc (steps_to_rest program sweeps hides k (own_step program hart)) else 0
