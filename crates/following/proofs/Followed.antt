-- A core that is followed is followed on by each operation.
use Rattle.std.proofs.Common.{◌≡◌, ℕ, ◌+◌, ◌*◌, ◌<◌, ◌∙◌, List, [], ◌∷◌, ◌++◌, length, refl, sym, ap, subst, arith, length-set, get_or-set_same}
use Rattle.std.specs.Prelude.{slice_set, slice_index_or, Some, None, Result, Ok, Err, IfOk}
use Rattle.std.proofs.lemmas.List.{length-map}
use Rattle.std.proofs.lemmas.List.Elements.{All-nil}
use Rattle.std.proofs.lemmas.Bool.Decides.{nat_tests}
use Rattle.cap_model.specs.values.CapValue.{CapValue, IsLawfulValue}
use Rattle.cheri_model.specs.declared.operation.Op.{Op}
use Rattle.cheri_model.specs.declared.operation.Op.TheVariants as operation
use Rattle.cheri_model.specs.steps.Hart.{HartState}
use Rattle.cheri_model.specs.steps.HartStep.{Stepped, hart_step}
use Rattle.cap_model.specs.results.Swept.{swept}
use Rattle.cheri_model.specs.runs.Sweeps.{swept_hart, swept_memory}
use Rattle.cheri_model.specs.runs.Machine.{hart_at, no_hart, entry_of, event_of, state_after_one, state_after_step, swept_state}
use Rattle.cheri_model.specs.runs.Replay.{operations_of}
use Rattle.cheri_model.proofs.Runs.Replays.{operations_of_push, operation-event_of}
use Rattle.cheri_model.specs.declared.trace.Entry.{Entry}
use Rattle.cores.specs.declared.faults.StepFault.{StepFault}
use Rattle.cores.specs.Cores.{CoreParts, IsCore, refused, answered, answered_step, core_after, applied}
use Rattle.origins.specs.Flows.{step_flows}
use Rattle.origins.specs.Origins.{Origins, before_flows}
use Rattle.origins.specs.declared.place.Place.{Place}
use Rattle.origins.specs.Table.{Table, IsPlaceIn, IsPlace, IsOpening, IsAfter, AreFlows, TellsOrigins, next_flows}
use Rattle.origins.proofs.Slots.{tells_opening, tells_step, tells_sweep}
use Rattle.facts.specs.Stepping.{IsTableFor}
use Rattle.facts.proofs.Placed.{length_stepped}
use Rattle.cheri_model.specs.declared.instr.Instr.{Instr}
use Rattle.cheri_model.specs.declared.trace.Outcome.{Outcome}
use Rattle.facts.specs.declared.step_facts.StepFacts.{StepFacts}
use Rattle.facts.specs.StepFacts.{fetched_of, facts_by, hart_facts}
use Rattle.cheri_model.specs.declared.operation.Event.TheVariants as event
use Rattle.cheri_model.specs.runs.Authority.{EachOfHart, IsLawfulState}
use Rattle.cheri_model.proofs.Runs.RunsConfined.{run_lawful}
use Rattle.origins.proofs.Writes.{at_each}
use Rattle.facts.specs.TrapsLaw.{ReadsRegisters}
use Rattle.facts.specs.SweepLaw.{HaveRegisters, AreTagsLost}
use Rattle.facts.proofs.Told.{trap_told, loss_told}
use Rattle.facts.proofs.SweptTags.{tags_lost, tags_counted}
use Rattle.following.specs.Following.{IsFollowed, IsPlaceOf, origins_now, next_facts, next_swept, TellsTrap, TellsLoss}

-- a core before its first operation
pub opened : (core : CoreParts) (table : Table) → IsCore core → core.trace ≡ [] →
    IsOpening (length core.state.harts) (length core.state.memory) table → IsFollowed core table
unfolding operations_of
opened core table is none opening =
    record {
      kept = is;
      harts = opening.harts;
      size = opening.size ∙ ap (λ n. 33 * n + length core.state.memory) (sym opening.harts);
      tells = subst (λ trace. TellsOrigins core.image (operations_of trace) table) (sym none) (tells_opening core.image (length core.state.harts) (length core.state.memory) table opening);
    }

-- a step that is not refused is of a hart that there is
pub hart_there : (core : CoreParts) (number : ℕ) → refused core (operation.Step number) ≡ None → number < length core.state.harts
unfolding refused
hart_there core number accepted = grind (arith, nat_tests)

-- its table has that hart
pub table_for : (core : CoreParts) (table : Table) (number : ℕ) → IsFollowed core table → number < length core.state.harts →
    IsTableFor table number (length core.state.memory)
table_for core table number followed there = record {
  hart = rw followed.harts there;
  size = followed.size;
}

-- what the hart's step leaves
abbrev pub step_of : CoreParts → ℕ → Stepped
step_of core number = hart_step core.image.program (hart_at core.state number) core.state.memory

pub hart_after : (core : CoreParts) (number : ℕ) → number < length core.state.harts →
    slice_index_or (core_after core (operation.Step number)).state.harts number no_hart ≡ (step_of core number).hart
unfolding core_after state_after_one state_after_step
hart_after core number there = get_or-set_same core.state.harts number _ no_hart there

pub memory_after : (core : CoreParts) (number : ℕ) → (core_after core (operation.Step number)).state.memory ≡ (step_of core number).memory
unfolding core_after state_after_one state_after_step
memory_after core number = refl

-- the flows of the step are those of the replay
pub flows_next : (core : CoreParts) (number : ℕ) → IsCore core →
    step_flows core.image.program (hart_at core.state number) core.state.memory ≡ next_flows core.image (operations_of core.trace) number
flows_next core number is = ap (λ state. step_flows core.image.program (hart_at state number) state.memory) is.replay.state

-- a step keeps the core followed
pub followed_step : (core : CoreParts) (number : ℕ) (old new : Table) → IsCore (core_after core (operation.Step number)) → IsFollowed core old → number < length core.state.harts →
    AreFlows old number (step_flows core.image.program (hart_at core.state number) core.state.memory) →
    IsAfter number (step_flows core.image.program (hart_at core.state number) core.state.memory) old new →
    IsFollowed (core_after core (operation.Step number)) new
unfolding core_after state_after_one state_after_step
followed_step core number old new is followed there are after =
    let flows = flows_next core number followed.kept in
    let harts : new.harts ≡ length (slice_set core.state.harts number (step_of core number).hart) =
    after.harts ∙ followed.harts ∙ sym (length-set core.state.harts number (step_of core number).hart) in
    let memory : length (step_of core number).memory ≡ length core.state.memory = length_stepped core.image.program (hart_at core.state number) core.state.memory in
    let order : operations_of (core_after core (operation.Step number)).trace ≡ operations_of core.trace ++ operation.Step number ∷ [] =
    operations_of_push core.trace (event_of core.image core.state (operation.Step number))
    ∙ ap (λ op. operations_of core.trace ++ op ∷ []) (operation-event_of core.image core.state (operation.Step number)) in
    let tells = tells_step core.image (operations_of core.trace) number old new
    (subst (λ f. AreFlows old number f) flows are) (subst (λ f. IsAfter number f old new) flows after) followed.tells in
    record {
      kept = is;
      harts = harts;
      size = after.size ∙ followed.size ∙ ap (λ n. 33 * n + length core.state.memory) (sym after.harts) ∙ ap (λ n. 33 * new.harts + n) (sym memory);
      tells = subst (λ ops. TellsOrigins core.image ops new) (sym order) tells;
    }

-- a sweep moves no value
pub followed_sweep : (core : CoreParts) (lo hi : ℕ) (table : Table) → IsCore (core_after core (operation.Sweep lo hi)) → IsFollowed core table →
    IsFollowed (core_after core (operation.Sweep lo hi)) table
unfolding core_after state_after_one swept_state swept_memory
followed_sweep core lo hi table is followed =
    let order : operations_of (core_after core (operation.Sweep lo hi)).trace ≡ operations_of core.trace ++ operation.Sweep lo hi ∷ [] =
    operations_of_push core.trace (event_of core.image core.state (operation.Sweep lo hi))
    ∙ ap (λ op. operations_of core.trace ++ op ∷ []) (operation-event_of core.image core.state (operation.Sweep lo hi)) in
    record {
      kept = is;
      harts = followed.harts ∙ sym (length-map core.state.harts (swept_hart lo hi));
      size = followed.size ∙ ap (λ n. 33 * table.harts + n) (sym (length-map core.state.memory (swept lo hi)));
      tells = subst (λ ops. TellsOrigins core.image ops table) (sym order) (tells_sweep core.image (operations_of core.trace) lo hi table followed.tells);
    }

-- a place of the core's machine is one of the table
pub place_there : (core : CoreParts) (table : Table) (place : Place) → IsFollowed core table → IsPlaceOf core place → IsPlace table place
place_there core table place followed there =
    let same : IsPlaceIn table.harts (33 * table.harts + length core.state.memory) place = subst (λ n. IsPlaceIn n (33 * n + length core.state.memory) place) (sym followed.harts) there in
    subst (λ size. IsPlaceIn table.harts size place) (sym followed.size) same

pub hart_there_after : (core : CoreParts) (number : ℕ) → number < length core.state.harts → number < length (core_after core (operation.Step number)).state.harts
unfolding core_after state_after_one state_after_step
hart_there_after core number there = rw length-set there

-- the step as its parts
pub step_parts : (core : CoreParts) (number : ℕ) (now : CoreParts) (hart : HartState) (memory : List CapValue) (result : Outcome) →
    now ≡ core_after core (operation.Step number) → number < length core.state.harts →
    hart ≡ hart_at now.state number → memory ≡ now.state.memory → result ≡ (step_of core number).outcome →
    step_of core number ≡ record { hart = hart; memory = memory; outcome = result }
unfolding hart_at
step_parts core number now hart memory result after there is_hart is_memory is_result =
    let left : hart ≡ (step_of core number).hart = is_hart ∙ ap (λ c. slice_index_or c.state.harts number no_hart) after ∙ hart_after core number there in
    let kept : memory ≡ (step_of core number).memory = is_memory ∙ ap (λ c. c.state.memory) after ∙ memory_after core number in
    λ i. record { hart = sym left i; memory = sym kept i; outcome = sym is_result i }

-- the table fits the memory after it, too
pub table_for_after : (core : CoreParts) (number : ℕ) (table : Table) (now : CoreParts) → IsFollowed core table → number < length core.state.harts →
    now ≡ core_after core (operation.Step number) → IsTableFor table number (length now.state.memory)
table_for_after core number table now followed there after =
    let size : length now.state.memory ≡ length core.state.memory =
    ap (λ c. length c.state.memory) after ∙ ap (λ m. length m) (memory_after core number) ∙ length_stepped core.image.program (hart_at core.state number) core.state.memory in
    record {
      hart = rw followed.harts there;
      size = followed.size ∙ ap (λ n. 33 * table.harts + n) (sym size);
    }

-- the facts by the step's parts are those of the definition
pub facts_joined : (program : List Instr) (number : ℕ) (hart : HartState) (memory : List CapValue) (from : Origins) (after : Stepped) (facts : StepFacts) →
    hart_step program hart memory ≡ after →
    facts ≡ facts_by (fetched_of program hart.pcc) number hart memory from after (λ place. from (before_flows number (step_flows program hart memory) place)) →
    facts ≡ hart_facts program number hart memory from
unfolding hart_facts
facts_joined program number hart memory from after facts is same =
    same ∙ ap (λ stepped. facts_by (fetched_of program hart.pcc) number hart memory from stepped (λ place. from (before_flows number (step_flows program hart memory) place))) (sym is)

-- an operation that is not refused is answered, and is the core's next
pub not_refused : (core : CoreParts) (op : Op) (fault : StepFault) → refused core op ≡ None → Err fault ≡ answered core op → ⊥
unfolding answered
not_refused core op fault none is =
    let ok : answered core op ≡ Ok (event_of core.image core.state op) = rw none refl in cc

pub step_not_refused : (core : CoreParts) (number : ℕ) (fault : StepFault) → refused core (operation.Step number) ≡ None → Err fault ≡ answered_step core number → ⊥
unfolding answered_step
step_not_refused core number fault none is =
    let ok : answered_step core number ≡ Ok (entry_of core.image core.state number) = rw none refl in cc

pub stepped_outcome : (core : CoreParts) (number : ℕ) (entry : Entry) → refused core (operation.Step number) ≡ None → Ok entry ≡ answered_step core number →
    entry.outcome ≡ (step_of core number).outcome
unfolding answered_step entry_of
stepped_outcome core number entry none is =
    let ok : answered_step core number ≡ Ok (entry_of core.image core.state number) = rw none refl in
    let same : entry ≡ entry_of core.image core.state number = cc in
    ap (λ e. e.outcome) same

pub applied_accepted : (core : CoreParts) (op : Op) → refused core op ≡ None → core_after core op ≡ applied core op
unfolding applied
applied_accepted core op none = rw none refl

pub applied_refused : (core : CoreParts) (op : Op) (fault : StepFault) → refused core op ≡ Some fault → core ≡ applied core op
unfolding applied
applied_refused core op fault some = rw some refl

-- ---- what is told of an operation is so

-- the values of a core's harts are lawful
hart_lawful : (core : CoreParts) (number : ℕ) → IsCore core → EachOfHart IsLawfulValue (hart_at core.state number)
unfolding hart_at
hart_lawful core number is =
    let lawful : IsLawfulState core.state = subst IsLawfulState (sym is.replay.state) (run_lawful core.image (operations_of core.trace) is.lawful).0 in
    at_each (EachOfHart IsLawfulValue) core.state.harts number no_hart
    record { pcc = omega arith; regs = All-nil IsLawfulValue } lawful.harts

pub next_trap : (core : CoreParts) (number : ℕ) (facts : StepFacts) → ReadsRegisters core.image.program (hart_at core.state number) →
    facts ≡ next_facts core number → TellsTrap core number facts
next_trap core number facts reads is =
    subst (TellsTrap core number) (sym is) (trap_told core.image.program number (hart_at core.state number) core.state.memory (origins_now core) reads)

pub next_loss : (core : CoreParts) (number : ℕ) (facts : StepFacts) → IsCore core → facts ≡ next_facts core number → TellsLoss core number facts
next_loss core number facts kept is =
    subst (TellsLoss core number) (sym is)
    (loss_told (hart_at core.state number) core.state.memory (origins_now core) number core.image.program (hart_lawful core number kept))

pub next_lost : (core now : CoreParts) (lo hi : ℕ) (places : List Place) → HaveRegisters core.state.harts →
    places ≡ next_swept core lo hi → now ≡ core_after core (operation.Sweep lo hi) → AreTagsLost core.state now.state places
unfolding core_after state_after_one
next_lost core now lo hi places registers is after =
    rw (is, after) (tags_lost lo hi core.state registers)

pub next_counted : (core now : CoreParts) (lo hi : ℕ) (places : List Place) → HaveRegisters core.state.harts →
    places ≡ next_swept core lo hi → now ≡ core_after core (operation.Sweep lo hi) →
    now.trace ≡ core.trace ++ event.Sweep (length places) lo hi ∷ []
unfolding core_after event_of
next_counted core now lo hi places registers is after =
    ap (λ c. c.trace) after
    ∙ ap (λ count. core.trace ++ event.Sweep count lo hi ∷ []) (sym (ap (λ list. length list) is ∙ tags_counted lo hi core.state registers))

-- what a result says says more
pub ok_weaker : {E : Type 0} → (r : Result Table E) (P Q : Table → Type 0) → ((table : Table) → P table → Q table) → IfOk r P → IfOk r Q
ok_weaker (Ok table) P Q weaker said = weaker table said
ok_weaker (Err e) P Q weaker said = said
