-- A step that traps stops its hart, whose values are then those before it, and so is the reason that they give.
use Rattle.std.proofs.Common.{◌≡◌, ℕ, List, length, refl, sym, ◌∙◌, ap, subst}
use Rattle.std.specs.Prelude.{true, false, Option, Some, None, Result, Ok, Err}
use Rattle.cap_model.specs.values.CapValue.{CapValue}
use Rattle.cheri_model.specs.declared.instr.Instr.{Instr}
use Rattle.cheri_model.specs.declared.instr.Instr.TheVariants as instr
use Rattle.cheri_model.specs.declared.trace.Status.{Status}
use Rattle.cheri_model.specs.declared.trace.Trap.{Trap}
use Rattle.cheri_model.specs.declared.trace.Outcome.{Outcome}
use Rattle.cheri_model.specs.declared.trace.Outcome.TheVariants as outcome
use Rattle.cheri_model.specs.steps.Hart.{HartState, register}
use Rattle.cheri_model.specs.steps.Checks.{first_failing, fetch_table}
use Rattle.cheri_model.specs.steps.Actions.{Action, Put, Load, Store, LoadCap, StoreCap, Swap, Branch, Jump, JumpThrough, Invoke, Halt, action}
use Rattle.cheri_model.specs.steps.HartStep.{Stepped, trapped, unless_trapped, execute, hart_step}
use Rattle.facts.specs.declared.step_facts.Fetched.{Fetched}
use Rattle.facts.specs.Traps.{types_differ, trap_why, why_of_cause, access_why, checked_by}
use Rattle.facts.specs.StepFacts.{fetched_by, fetched_of, trapped_by, fetch_trap, fetch_facts, trapped_facts}
use Rattle.facts.specs.Stepping.{IsStopped}
use Rattle.facts.specs.declared.step_facts.StepFacts.{StepFacts}
use Rattle.origins.specs.Origins.{Origins}

abbrev Stops : HartState → Stepped → Type 0
Stops hart after = (trap : Trap) → after.outcome ≡ outcome.Trap trap → IsStopped hart after.hart

unless : (r : Result (Unit {0}) Trap) (hart : HartState) (memory : List CapValue) (after : Stepped) → Stops hart after
    → Stops hart (unless_trapped r hart memory after)
unfolding trapped
unless (Ok u) hart memory after stops = stops
unless (Err trap) hart memory after stops = λ other is. refl

no_trap : (trap : Trap) (hart after : HartState) → outcome.Done ≡ outcome.Trap trap → IsStopped hart after
no_trap trap hart after is = absurd (cc)

no_trap_halted : (trap : Trap) (hart after : HartState) → outcome.Halt ≡ outcome.Trap trap → IsStopped hart after
no_trap_halted trap hart after is = absurd (cc)

executed : (act : Action) (hart : HartState) (memory : List CapValue) → Stops hart (execute act hart memory)
unfolding execute
executed (Put cd v) hart memory = λ trap is. no_trap trap hart _ is
executed (Load cd c1 addr width signed) hart memory = unless _ hart memory _ (λ trap is. no_trap trap hart _ is)
executed (Store c1 addr width number) hart memory = unless _ hart memory _ (λ trap is. no_trap trap hart _ is)
executed (LoadCap cd c1 addr) hart memory = unless _ hart memory _ (λ trap is. no_trap trap hart _ is)
executed (StoreCap c1 addr v) hart memory = unless _ hart memory _ (λ trap is. no_trap trap hart _ is)
executed (Swap cd c1 addr v) hart memory = unless _ hart memory _ (λ trap is. no_trap trap hart _ is)
executed (Branch true target) hart memory = unless _ hart memory _ (λ trap is. no_trap trap hart _ is)
executed (Branch false target) hart memory = λ trap is. no_trap trap hart _ is
executed (Jump cd target) hart memory = unless _ hart memory _ (λ trap is. no_trap trap hart _ is)
executed (JumpThrough cd c1 is_entry target) hart memory = unless _ hart memory _ (λ trap is. no_trap trap hart _ is)
executed (Invoke c1 c2 target) hart memory = unless _ hart memory _ (λ trap is. no_trap trap hart _ is)
executed Halt hart memory = λ trap is. no_trap_halted trap hart _ is

-- a step that traps
pub step_stops : (program : List Instr) (hart : HartState) (memory : List CapValue) (after : Stepped) →
    hart_step program hart memory ≡ after → (trap : Trap) → after.outcome ≡ outcome.Trap trap → IsStopped hart after.hart
unfolding hart_step
step_stops program hart memory after is = subst (λ stepped. Stops hart stepped) is (unless _ hart memory _ (executed _ hart memory))

-- a step whose fetch does
fetch_stops : (r : Result (Unit {0}) Trap) (program : List Instr) (hart : HartState) (memory : List CapValue) (after : Stepped) →
    fetched_by r program hart.pcc ≡ None → IsStopped hart (unless_trapped r hart memory after).hart
unfolding trapped
fetch_stops (Ok u) program hart memory after none = absurd (cc)
fetch_stops (Err trap) program hart memory after none = refl

pub unfetched_stops : (program : List Instr) (hart : HartState) (memory : List CapValue) (after : Stepped) →
    fetched_of program hart.pcc ≡ None → hart_step program hart memory ≡ after → IsStopped hart after.hart
unfolding fetched_of hart_step
unfetched_stops program hart memory after none is =
    subst (λ stepped. IsStopped hart stepped.hart) is (fetch_stops _ program hart memory _ none)

-- ---- what a hart asks for, and why it trapped, doesn't depend on its status

same_action : (i : Instr) (hart : HartState) (s : Status) → action i (record hart { status = s }) ≡ action i hart
unfolding action register
same_action (instr.CMove cd c1) hart s = refl
same_action _ hart s = refl

same_types : (i : Instr) (hart : HartState) (s : Status) → types_differ (Some i) (record hart { status = s }) ≡ types_differ (Some i) hart
unfolding register
same_types (instr.CInvoke c1 c2) hart s = refl
same_types _ hart s = refl

same_why : (fetched : Option Instr) (hart : HartState) (s : Status) (trap : Trap) →
    trap_why fetched (record hart { status = s }) trap ≡ trap_why fetched hart trap
unfolding why_of_cause register
same_why None hart s trap = refl
same_why (Some i) hart s trap = rw (same_action i hart s, same_types i hart s) refl

same_trap : (fetched : Option Instr) (hart after : HartState) (trap : Trap) → IsStopped hart after →
    trapped_by fetched after trap ≡ trapped_by fetched hart trap
same_trap fetched hart after trap stopped =
    ap (λ h. trapped_by fetched h trap) stopped
    ∙ ap (λ why. record { trap = trap; why = why }) (same_why fetched hart after.status trap)

same_fetch : (number : ℕ) (hart after : HartState) (o : Outcome) → IsStopped hart after →
    fetch_facts number after o ≡ fetch_facts number hart o
same_fetch number hart after outcome.Done stopped = ap (λ h. fetch_facts number h outcome.Done) stopped
same_fetch number hart after outcome.Halt stopped = ap (λ h. fetch_facts number h outcome.Halt) stopped
same_fetch number hart after (outcome.Trap trap) stopped = rw (same_trap None hart after trap stopped, stopped) refl

pub same_fetch_facts : (number : ℕ) (hart after : HartState) (o : Outcome) (facts : StepFacts) → IsStopped hart after →
    facts ≡ fetch_facts number after o → facts ≡ fetch_facts number hart o
same_fetch_facts number hart after o facts stopped is = is ∙ same_fetch number hart after o stopped

pub same_trapped_facts : (number : ℕ) (hart after : HartState) (memory : List CapValue) (from : Origins) (fetched : Fetched) (trap : Trap) (facts : StepFacts) →
    IsStopped hart after →
    facts ≡ record (trapped_facts number hart memory from fetched trap) { traps = Some (trapped_by (Some fetched.instr) after trap) } →
    facts ≡ trapped_facts number hart memory from fetched trap
same_trapped_facts number hart after memory from fetched trap facts stopped is =
    is ∙ ap (λ t. record (trapped_facts number hart memory from fetched trap) { traps = Some t }) (same_trap (Some fetched.instr) hart after trap stopped)
