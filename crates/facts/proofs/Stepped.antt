-- What a step does, by what its fetch gave.
use Rattle.std.proofs.Common.{◌≡◌, ℕ, List, [], length, refl, sym, ◌∙◌, ap, subst}
use Rattle.std.specs.Prelude.{Some, None, Result, Ok, Err}
use Rattle.cap_model.specs.values.CapValue.{CapValue}
use Rattle.cap_model.specs.results.Addresses.{address_of}
use Rattle.cheri_model.specs.declared.instr.Instr.{Instr}
use Rattle.cheri_model.specs.declared.trace.Trap.{Trap}
use Rattle.cheri_model.specs.declared.trace.Outcome.TheVariants as outcome
use Rattle.cheri_model.specs.steps.Hart.{HartState}
use Rattle.cheri_model.specs.steps.Checks.{first_failing, fetch_table}
use Rattle.cheri_model.specs.steps.Actions.{Action, Put, Load, Store, LoadCap, StoreCap, Swap, Branch, Jump, JumpThrough, Invoke, Halt, action}
use Rattle.cheri_model.specs.steps.HartStep.{Stepped, trapped, unless_trapped, execute, hart_step, instruction_at}
use Rattle.origins.specs.Flows.{flows_at, accessed_address, flows, flows_if, step_flows}
use Rattle.origins.specs.Origins.{Origins}
use Rattle.facts.specs.declared.step_facts.Fetched.{Fetched}
use Rattle.facts.specs.declared.stepping.Seen.{Seen}
use Rattle.facts.specs.Names.{access_of}
use Rattle.facts.specs.declared.step_facts.StepFacts.{StepFacts}
use Rattle.facts.specs.StepFacts.{fetched_by, fetched_of, fetch_facts, instruction_facts, facts_by}
use Rattle.facts.specs.Stepping.{IsPlaced, IsSeenBefore, IsNotTrap, address_accessed}
use Rattle.facts.proofs.Placed.{placed_done, length_executed, placed_same}

-- what a fetch gave that passed
record IsFetch (program : List Instr) (pcc : CapValue) (fetched : Fetched) : Type 0 where
  passed : first_failing (fetch_table pcc (length program)) ≡ Ok tt
  instr : fetched.instr ≡ instruction_at program (address_of pcc)

fetch_by : (r : Result (Unit {0}) Trap) (program : List Instr) (pcc : CapValue) (fetched : Fetched) → fetched_by r program pcc ≡ Some fetched →
    (r ≡ Ok tt) × (fetched.instr ≡ instruction_at program (address_of pcc))
fetch_by (Ok u) program pcc fetched is = (refl, cc)
fetch_by (Err trap) program pcc fetched is = absurd (cc)

fetch_is : (program : List Instr) (pcc : CapValue) (fetched : Fetched) → fetched_of program pcc ≡ Some fetched → IsFetch program pcc fetched
unfolding fetched_of
fetch_is program pcc fetched is = let by = fetch_by _ program pcc fetched is in record { passed = by.0; instr = by.1 }

pub fetched_instr : (program : List Instr) (pcc : CapValue) (fetched : Fetched) → fetched_of program pcc ≡ Some fetched →
    fetched.instr ≡ instruction_at program (address_of pcc)
fetched_instr program pcc fetched is = (fetch_is program pcc fetched is).instr

-- a step whose fetch passed does what the instruction asks for
pub step_executes : (program : List Instr) (hart : HartState) (memory : List CapValue) (fetched : Fetched) → fetched_of program hart.pcc ≡ Some fetched →
    hart_step program hart memory ≡ execute (action fetched.instr hart) hart memory
unfolding hart_step
step_executes program hart memory fetched is =
    let fetch = fetch_is program hart.pcc fetched is in
    let passed = fetch.passed in
    let instr = fetch.instr in
    rw (passed, instr) refl

-- one whose fetch did not traps
no_fetch : (r : Result (Unit {0}) Trap) (program : List Instr) (hart : HartState) (memory : List CapValue) (after : Stepped) → fetched_by r program hart.pcc ≡ None →
    IsNotTrap (unless_trapped r hart memory after).outcome → ⊥
unfolding trapped
no_fetch (Ok u) program hart memory after is done = absurd (cc)
no_fetch (Err trap) program hart memory after is done = done

pub unfetched_traps : (program : List Instr) (hart : HartState) (memory : List CapValue) → fetched_of program hart.pcc ≡ None → IsNotTrap (hart_step program hart memory).outcome → ⊥
unfolding fetched_of hart_step
unfetched_traps program hart memory is done = no_fetch _ program hart memory _ is done

-- the address of an action's access
pub accessed_is : (act : Action) → accessed_address act ≡ address_accessed (access_of act)
accessed_is (Put cd v) = refl
accessed_is (Load cd c1 addr width signed) = refl
accessed_is (Store c1 addr width number) = refl
accessed_is (LoadCap cd c1 addr) = refl
accessed_is (StoreCap c1 addr v) = refl
accessed_is (Swap cd c1 addr v) = refl
accessed_is (Branch taken target) = refl
accessed_is (Jump cd target) = refl
accessed_is (JumpThrough cd c1 is_entry target) = refl
accessed_is (Invoke c1 c2 target) = refl
accessed_is Halt = refl

-- what is seen of an instruction whose step did not trap is placed, before the step and after it
pub record IsPlacedStep (seen : Seen) (memory after : List CapValue) : Type 0 where
  pub before : IsPlaced memory seen.at
  pub later : IsPlaced after seen.at

pub seen_placed : (seen : Seen) (facts : StepFacts) (program : List Instr) (number : ℕ) (hart : HartState) (memory : List CapValue) (from : Origins) (after : Stepped) →
    IsSeenBefore (Some seen) facts program number hart memory from → hart_step program hart memory ≡ after → IsNotTrap after.outcome →
    IsPlacedStep seen memory after.memory
seen_placed seen facts program number hart memory from after before is done =
    let act = action seen.fetched.instr hart in
    let does : execute act hart memory ≡ after = sym (step_executes program hart memory seen.fetched before.0) ∙ is in
    let same : seen.at ≡ access_of act = before.1.at in
    let quiet : IsNotTrap (execute act hart memory).outcome = subst (λ stepped. IsNotTrap stepped.outcome) (sym does) done in
    let placed : IsPlaced memory seen.at = subst (λ at. IsPlaced memory at) (sym same) (placed_done act hart memory quiet) in
    let size : length after.memory ≡ length memory = ap (λ stepped. length stepped.memory) (sym does) ∙ length_executed act hart memory in
    record { before = placed; later = placed_same memory after.memory seen.at size placed }

-- the flows of a step that is done are those of the instruction that was seen
pub seen_flows : (seen : Seen) (facts : StepFacts) (program : List Instr) (number : ℕ) (hart : HartState) (memory : List CapValue) (from : Origins) →
    IsSeenBefore (Some seen) facts program number hart memory from → (hart_step program hart memory).outcome ≡ outcome.Done →
    flows_at seen.fetched.instr (address_accessed seen.at) ≡ step_flows program hart memory
unfolding step_flows
seen_flows seen facts program number hart memory from before done =
    let instr : seen.fetched.instr ≡ instruction_at program (address_of hart.pcc) = (fetch_is program hart.pcc seen.fetched before.0).instr in
    let at : seen.at ≡ access_of (action seen.fetched.instr hart) = before.1.at in
    ap (λ a. flows_at seen.fetched.instr (address_accessed a)) at
    ∙ ap (λ a. flows_at seen.fetched.instr a) (sym (accessed_is (action seen.fetched.instr hart)))
    ∙ ap (λ i. flows_at i (accessed_address (action i hart))) instr
    ∙ ap (λ o. flows_if o (flows (instruction_at program (address_of hart.pcc)) hart)) (sym done)

-- a step that halts or traps has none
pub no_flows : (program : List Instr) (hart : HartState) (memory : List CapValue) (trap : Trap) → (hart_step program hart memory).outcome ≡ outcome.Trap trap → [] ≡ step_flows program hart memory
unfolding step_flows
no_flows program hart memory trap is = ap (λ o. flows_if o (flows (instruction_at program (address_of hart.pcc)) hart)) (sym is)

pub halt_flows : (program : List Instr) (hart : HartState) (memory : List CapValue) → (hart_step program hart memory).outcome ≡ outcome.Halt → [] ≡ step_flows program hart memory
unfolding step_flows
halt_flows program hart memory is = ap (λ o. flows_if o (flows (instruction_at program (address_of hart.pcc)) hart)) (sym is)

-- the facts of a step that fetched nothing, and of one that fetched what was seen
pub facts_unfetched : (program : List Instr) (number : ℕ) (hart : HartState) (memory : List CapValue) (from later : Origins) (after : Stepped) →
    fetched_of program hart.pcc ≡ None → fetch_facts number hart after.outcome ≡ facts_by (fetched_of program hart.pcc) number hart memory from after later
facts_unfetched program number hart memory from later after none = rw none refl

pub facts_fetched : (program : List Instr) (number : ℕ) (hart : HartState) (memory : List CapValue) (from later : Origins) (after : Stepped) (fetched : Fetched) (facts : StepFacts) →
    fetched_of program hart.pcc ≡ Some fetched → facts ≡ instruction_facts after.outcome number hart memory from fetched after later →
    facts ≡ facts_by (fetched_of program hart.pcc) number hart memory from after later
facts_fetched program number hart memory from later after fetched facts some is = rw some is
