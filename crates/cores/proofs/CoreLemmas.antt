-- A core that is booted, and one that took an operation, keep what every core keeps.
use Rattle.std.proofs.Common.{◌≡◌, ℕ, ◌<◌, Bool, true, false, not, ltb-true, List, [], ◌∷◌, ◌++◌, length, get_or, map, refl, sym, ap, subst, ◌∙◌, arith, length-append}
use Rattle.std.proofs.Common.{◌≤◌, ◌≢◌, ◌&&◌, ◌%◌, ◌==◌, leb-true, length-set}
use Rattle.std.specs.Prelude.{◌+◌, All, slice_set, nat_lt, nat_le, Option, Some, None, Result, Ok, Err, if◌then◌else◌, sum_by}
use Rattle.std.proofs.lemmas.Bool.{and_parts}
use Rattle.std.proofs.lemmas.Bool.Decides.{nat_tests}
use Rattle.std.proofs.lemmas.List.{get_or_read, length-map}
use Rattle.cheri_model.specs.declared.instr.Instr.{Instr}
use Rattle.cheri_model.specs.declared.operation.Op.{Op}
use Rattle.cheri_model.specs.declared.operation.Op.TheVariants as operation
use Rattle.cheri_model.specs.declared.operation.Event.{Event}
use Rattle.cheri_model.specs.declared.operation.Event.TheVariants as event
use Rattle.cheri_model.specs.declared.trace.Entry.{Entry}
use Rattle.cap_model.specs.values.CapValue.{CapValue, IsLawfulValue}
use Rattle.cap_model.specs.results.Addresses.{address_of}
use Rattle.cheri_model.specs.steps.Memory.{IsMemory}
use Rattle.cheri_model.specs.steps.Hart.{HartState}
use Rattle.cheri_model.specs.steps.HartStep.{hart_step}
use Rattle.cheri_model.specs.runs.Image.{ImageParts, opening_hart, opening_memory}
use Rattle.cheri_model.specs.runs.Sweeps.{is_range, swept_hart, swept_memory, cleared_in_hart, cleared_in_memory}
use Rattle.cheri_model.specs.runs.Machine.{MachineState, opening_state, is_running, hart_at, no_hart, may_take, entry_of, event_of, state_after_step, state_after_one, swept_state, cleared}
use Rattle.cheri_model.specs.runs.Replay.{IsReplay, operations_of, state_after, replayed_state}
use Rattle.cheri_model.specs.runs.ImageRules.{is_between, are_sizes, is_image}
use Rattle.cheri_model.specs.runs.Authority.{EachOfHart, IsLawfulState, IsConfined, IsMonotone}
use Rattle.cheri_model.proofs.Runs.Replays.{IsReplay-opening, IsReplay_push, operations_of_push, operation-event_of}
use Rattle.cheri_model.proofs.Runs.RunsConfined.{memory_lawful, run_lawful, replay_monotone}
use Rattle.cores.specs.declared.faults.StepFault.{StepFault}
use Rattle.cores.specs.declared.faults.StepFault.TheVariants.{NoSuchHart, TraceFull, HartStopped, BadRange}
use Rattle.cores.specs.Cores.{CoreParts, parts_of_core, is_limit, IsCore, opening_core, refused, unless_refused, answered, answered_step, core_after}

-- the opening state of an image, from its opened harts and memory
pub state_opened : (image : ImageParts) (harts : List HartState) (memory : List CapValue) →
    harts ≡ map opening_hart image.harts → memory ≡ opening_memory image.ram image.granules →
    ◌≡◌ {A = MachineState} (record { harts = harts; memory = memory }) (opening_state image)
unfolding opening_state
state_opened image harts memory e f i = record { harts = e i; memory = f i }

pub booted : (image : ImageParts) (limit : ℕ) (harts : List HartState) (memory : List CapValue) →
    harts ≡ map opening_hart image.harts → memory ≡ opening_memory image.ram image.granules →
    All (EachOfHart IsLawfulValue) harts → IsMemory memory → is_limit limit ≡ true →
    IsCore (parts_of_core image limit [] harts memory)
booted image limit harts memory e f lawful is limited =
    let opened = state_opened image harts memory e f in
    record {
      replay = subst (IsReplay image []) (sym opened) (IsReplay-opening image);
      lawful = subst IsLawfulState opened (record { harts = lawful; memory = memory_lawful memory is });
      limited = limited;
      within = omega arith;
    }

-- the core of an image before its first operation
pub opened : (image : ImageParts) (limit : ℕ) → IsLawfulState (opening_state image) → is_limit limit ≡ true →
    IsCore (opening_core image limit)
opened image limit lawful limited = record {
  replay = IsReplay-opening image;
  lawful = lawful;
  limited = limited;
  within = omega arith;
}

-- where a step is not refused there is this hart, the trace has room, and the hart may step
pub record CanStep (core : CoreParts) (hart : ℕ) : Type 0 where
  pub there : hart < length core.state.harts
  pub room : length core.trace < core.limit
  pub may : may_take core.state (operation.Step hart) ≡ true

pub not_refused : (core : CoreParts) (hart : ℕ) → refused core (operation.Step hart) ≡ None → CanStep core hart
unfolding refused may_take
not_refused core hart is = by_there (nat_lt hart (length core.state.harts)) refl is
  where
    count : ℕ
    count = length core.trace

    runs : Bool
    runs = is_running (hart_at core.state hart).status

    by_runs : (r : Bool) → runs ≡ r → nat_lt hart (length core.state.harts) ≡ true → nat_lt count core.limit ≡ true →
        (if not r then Some HartStopped else None) ≡ None → CanStep core hart
    by_runs false e there room is = cc
    by_runs true e there room is = record { there = ltb-true _ _ there; room = ltb-true _ _ room; may = rw (there, e) refl }

    by_room : (b : Bool) → nat_lt count core.limit ≡ b → nat_lt hart (length core.state.harts) ≡ true →
        (if not b then Some TraceFull else if not runs then Some HartStopped else None) ≡ None → CanStep core hart
    by_room false e there is = cc
    by_room true e there is = by_runs runs refl there e is

    by_there : (b : Bool) → nat_lt hart (length core.state.harts) ≡ b →
        (if not b then Some NoSuchHart else if not (nat_lt count core.limit) then Some TraceFull else if not runs then Some HartStopped else None) ≡ None →
        CanStep core hart
    by_there false e is = cc
    by_there true e is = by_room (nat_lt count core.limit) refl e is

-- where a sweep is not refused its range can be swept, and the trace has room
pub record CanSweep (core : CoreParts) (lo hi : ℕ) : Type 0 where
  pub room : length core.trace < core.limit
  pub may : may_take core.state (operation.Sweep lo hi) ≡ true

pub sweep_not_refused : (core : CoreParts) (lo hi : ℕ) → refused core (operation.Sweep lo hi) ≡ None → CanSweep core lo hi
unfolding refused may_take
sweep_not_refused core lo hi is = by_range (is_range lo hi) refl is
  where
    by_room : (b : Bool) → nat_lt (length core.trace) core.limit ≡ b → is_range lo hi ≡ true →
        (if not b then Some TraceFull else None) ≡ None → CanSweep core lo hi
    by_room false e range is = cc
    by_room true e range is = record { room = ltb-true _ _ e; may = range }

    by_range : (b : Bool) → is_range lo hi ≡ b →
        (if not b then Some BadRange else if not (nat_lt (length core.trace) core.limit) then Some TraceFull else None) ≡ None →
        CanSweep core lo hi
    by_range false e is = cc
    by_range true e is = by_room (nat_lt (length core.trace) core.limit) refl e is

-- a core after an operation is a core
pub core_with : (core : CoreParts) (op : Op) → IsCore core → length core.trace < core.limit → may_take core.state op ≡ true →
    IsCore (core_after core op)
unfolding core_after
core_with core op is room may = record {
  replay = IsReplay_push core.image core.trace core.state op is.replay may;
  lawful = is.lawful;
  limited = is.limited;
  within = rw (length-append core.trace _) (omega arith);
}

-- and after one that is not refused
pub core_applied : (core : CoreParts) (op : Op) → IsCore core → refused core op ≡ None → IsCore (core_after core op)
core_applied core (operation.Step hart) is none =
    let can = not_refused core hart none in
    core_with core (operation.Step hart) is can.room can.may
core_applied core (operation.Sweep lo hi) is none =
    let can = sweep_not_refused core lo hi none in
    core_with core (operation.Sweep lo hi) is can.room can.may

-- every tagged value of a core lies within an initial capability
pub core_confined : (core : CoreParts) → IsCore core → IsConfined core.image core.state
core_confined core is =
    subst (IsConfined core.image) (sym is.replay.state) (run_lawful core.image (operations_of core.trace) is.lawful).1

-- and is granted by what any prefix of its trace left
pub core_monotone : (core : CoreParts) → IsCore core → IsMonotone core.image core.trace core.state
core_monotone core is = replay_monotone core.image core.trace core.state is.replay is.lawful

-- what a step of a hart by itself leaves, of the hart and of memory, and answers
pub record IsHartStep (program : List Instr) (before : HartState) (memory : List CapValue) (number : ℕ)
    (after : HartState) (left : List CapValue) (added : Entry) : Type 0 where
  pub hart : after ≡ (hart_step program before memory).hart
  pub ram : left ≡ (hart_step program before memory).memory
  pub entry : added ≡ record { hart = number; pc = address_of before.pcc; outcome = (hart_step program before memory).outcome }

-- what it says of the core
module _ (core : CoreParts) (hart : ℕ) (after : HartState) (memory : List CapValue) (entry : Entry)
    (step : IsHartStep core.image.program (hart_at core.state hart) core.state.memory hart after memory entry) where
  pub entry_taken : entry ≡ entry_of core.image core.state hart
  unfolding entry_of
  entry_taken = step.entry

  state_taken : ◌≡◌ {A = MachineState} (record { harts = slice_set core.state.harts hart after; memory = memory }) (state_after_step core.image core.state hart)
  unfolding state_after_step
  state_taken i = record {
    harts = slice_set core.state.harts hart (step.hart i);
    memory = step.ram i;
  }

  pub core_taken : parts_of_core core.image core.limit (core.trace ++ event.Step entry ∷ []) (slice_set core.state.harts hart after) memory ≡ core_after core (operation.Step hart)
  unfolding core_after event_of state_after_one
  core_taken i = record {
    image = core.image;
    limit = core.limit;
    trace = core.trace ++ event.Step (entry_taken i) ∷ [];
    state = state_taken i;
  }

-- a hart that was read at a number is the state's
read_hart : (state : MachineState) (number : ℕ) (hart : HartState) → number < length state.harts → hart ≡ get_or state.harts number hart → hart ≡ hart_at state number
unfolding hart_at
read_hart state number hart inside is = get_or_read state.harts number hart inside is no_hart

-- what a step that was not refused leaves of a core, which is seen as this
pub record Took (core seen : CoreParts) (hart number : ℕ) (after : HartState) (memory : List CapValue) (entry : Entry) : Type 0 where
  pub entry_is : entry ≡ entry_of seen.image seen.state hart
  pub core_is : parts_of_core core.image core.limit (core.trace ++ event.Step entry ∷ []) (slice_set core.state.harts number after) memory ≡ core_after seen (operation.Step hart)
  pub keeps : IsCore (parts_of_core core.image core.limit (core.trace ++ event.Step entry ∷ []) (slice_set core.state.harts number after) memory)

pub can_step : (core seen : CoreParts) (hart : ℕ) → core ≡ seen → refused seen (operation.Step hart) ≡ None → CanStep core hart
can_step core seen hart same none = not_refused core hart (subst (λ (k : CoreParts). refused k (operation.Step hart) ≡ None) (sym same) none)

pub took : (core seen : CoreParts) (hart number : ℕ) (program : List Instr) (before after : HartState) (memory : List CapValue) (entry : Entry) →
    core ≡ seen → IsCore core → refused seen (operation.Step hart) ≡ None → number ≡ hart → program ≡ core.image.program →
    before ≡ get_or core.state.harts number before → IsHartStep program before core.state.memory hart after memory entry → Took core seen hart number after memory entry
took core seen hart number program before after memory entry view is none same same_program read step =
    let can = can_step core seen hart view none in
    let inside : number < length core.state.harts = (let there = can.there in omega arith) in
    let here : before ≡ hart_at core.state hart = read_hart core.state number before inside read ∙ ap (hart_at core.state) same in
    let stepped = subst (λ (p : List Instr). IsHartStep p (hart_at core.state hart) core.state.memory hart after memory entry) same_program
    (subst (λ (h : HartState). IsHartStep program h core.state.memory hart after memory entry) here step) in
    let left = ap (λ n. parts_of_core core.image core.limit (core.trace ++ event.Step entry ∷ []) (slice_set core.state.harts n after) memory) same
    ∙ core_taken core hart after memory entry stepped in
    record {
      entry_is = entry_taken core hart after memory entry stepped ∙ ap (λ (k : CoreParts). entry_of k.image k.state hart) view;
      core_is = left ∙ ap (λ (k : CoreParts). core_after k (operation.Step hart)) view;
      keeps = subst IsCore (sym left) (core_with core (operation.Step hart) is can.room can.may);
    }

-- what a sweep that was not refused leaves of a core, which is seen as this
pub record Cleared (core seen : CoreParts) (lo hi : ℕ) (added : Event) (harts : List HartState) (memory : List CapValue) : Type 0 where
  pub event_is : added ≡ event_of seen.image seen.state (operation.Sweep lo hi)
  pub core_is : parts_of_core core.image core.limit (core.trace ++ added ∷ []) harts memory ≡ core_after seen (operation.Sweep lo hi)
  pub keeps : IsCore (parts_of_core core.image core.limit (core.trace ++ added ∷ []) harts memory)

pub can_sweep : (core seen : CoreParts) (lo hi : ℕ) → core ≡ seen → refused seen (operation.Sweep lo hi) ≡ None → CanSweep core lo hi
can_sweep core seen lo hi same none =
    sweep_not_refused core lo hi (subst (λ (k : CoreParts). refused k (operation.Sweep lo hi) ≡ None) (sym same) none)

pub cleared_core : (core seen : CoreParts) (lo hi count : ℕ) (harts : List HartState) (memory : List CapValue) →
    core ≡ seen → IsCore core → refused seen (operation.Sweep lo hi) ≡ None →
    harts ≡ map (swept_hart lo hi) core.state.harts → memory ≡ swept_memory lo hi core.state.memory →
    count ≡ sum_by (cleared_in_hart lo hi) core.state.harts + cleared_in_memory lo hi core.state.memory →
    Cleared core seen lo hi (event.Sweep count lo hi) harts memory
unfolding core_after event_of state_after_one swept_state cleared
cleared_core core seen lo hi count harts memory view is none of_harts of_memory counted =
    let can = can_sweep core seen lo hi view none in
    let added : event.Sweep count lo hi ≡ event_of core.image core.state (operation.Sweep lo hi) = ap (λ n. event.Sweep n lo hi) counted in
    let left : parts_of_core core.image core.limit (core.trace ++ event.Sweep count lo hi ∷ []) harts memory ≡ core_after core (operation.Sweep lo hi) =
    (λ i. record {
      image = core.image;
      limit = core.limit;
      trace = core.trace ++ added i ∷ [];
      state = record { harts = of_harts i; memory = of_memory i };
    }) in
    record {
      event_is = added ∙ ap (λ (k : CoreParts). event_of k.image k.state (operation.Sweep lo hi)) view;
      core_is = left ∙ ap (λ (k : CoreParts). core_after k (operation.Sweep lo hi)) view;
      keeps = subst IsCore (sym left) (core_with core (operation.Sweep lo hi) is can.room can.may);
    }

-- what a step answers as an operation: the event of its entry, or the same refusal
pub step_added : (core : CoreParts) (hart : ℕ) (entry : Entry) → ◌≡◌ {A = Result Entry StepFault} (Ok entry) (answered_step core hart) →
    ◌≡◌ {A = Result Event StepFault} (Ok (event.Step entry)) (answered core (operation.Step hart))
unfolding answered answered_step event_of
step_added core hart entry is = by_refusal (refused core (operation.Step hart)) is
  where
    by_refusal : (r : Option StepFault) → ◌≡◌ {A = Result Entry StepFault} (Ok entry) (unless_refused r (entry_of core.image core.state hart)) →
        ◌≡◌ {A = Result Event StepFault} (Ok (event.Step entry)) (unless_refused r (event.Step (entry_of core.image core.state hart)))
    by_refusal None is =
        let same : entry ≡ entry_of core.image core.state hart = cc in
        ap (λ (e : Entry). Ok (event.Step e)) same
    by_refusal (Some fault) is = absurd cc

pub step_refused : (core : CoreParts) (hart : ℕ) (fault : StepFault) → ◌≡◌ {A = Result Entry StepFault} (Err fault) (answered_step core hart) →
    ◌≡◌ {A = Result Event StepFault} (Err fault) (answered core (operation.Step hart))
unfolding answered answered_step event_of
step_refused core hart fault is = by_refusal (refused core (operation.Step hart)) is
  where
    by_refusal : (r : Option StepFault) → ◌≡◌ {A = Result Entry StepFault} (Err fault) (unless_refused r (entry_of core.image core.state hart)) →
        ◌≡◌ {A = Result Event StepFault} (Err fault) (unless_refused r (event.Step (entry_of core.image core.state hart)))
    by_refusal None is = absurd cc
    by_refusal (Some other) is =
        let same : fault ≡ other = cc in
        ap (λ (f : StepFault). Err f) same

-- one more operation is at the end of the trace's
pub operations_after : (core : CoreParts) (op : Op) → operations_of (core_after core op).trace ≡ operations_of core.trace ++ op ∷ []
unfolding core_after
operations_after core op =
    operations_of_push core.trace (event_of core.image core.state op)
    ∙ ap (λ o. operations_of core.trace ++ o ∷ []) (operation-event_of core.image core.state op)

-- an image has at most eight harts
pub image_hart_limit : (image : ImageParts) → is_image image ≡ true → length image.harts ≤ 8
unfolding is_image
image_hart_limit image is =
    let sizes = (and_parts (are_sizes (length image.program) image.ram (length image.harts)) _ is).0 in
    let last = (and_parts (is_between 1 16384 (length image.program) && is_between 16 1048576 image.ram && (image.ram % 16 == 0)) _ sizes).1 in
    leb-true _ _ (and_parts (nat_le 1 (length image.harts)) _ last).1

-- a run keeps the harts of its image
length-state_after : (image : ImageParts) (order : List Op) (state : MachineState) →
    length (state_after image state order).harts ≡ length state.harts
unfolding state_after state_after_one state_after_step swept_state
length-state_after image [] state = refl
length-state_after image (operation.Step hart ∷ order) state =
    length-state_after image order (state_after_one image state (operation.Step hart)) ∙ simp length-set
length-state_after image (operation.Sweep lo hi ∷ order) state =
    length-state_after image order (state_after_one image state (operation.Sweep lo hi)) ∙ simp length-map

pub hart_count_kept : (core : CoreParts) → IsCore core → length core.state.harts ≡ length core.image.harts
unfolding replayed_state opening_state
hart_count_kept core is =
    ap (λ (s : MachineState). length s.harts) is.replay.state
    ∙ length-state_after core.image (operations_of core.trace) (opening_state core.image) ∙ simp length-map

-- a step of a hart that the machine has is not refused for want of it
pub hart_is_there : (core after : CoreParts) (hart harts : ℕ) (fault : StepFault) → IsCore after → after ≡ core →
    length core.image.harts ≡ harts → hart < harts → Some fault ≡ refused core (operation.Step hart) → fault ≢ NoSuchHart
unfolding refused
hart_is_there core after hart harts fault is same count below answer missing =
    let kept = hart_count_kept core (subst IsCore same is) in
    let inside : nat_lt hart (length core.state.harts) ≡ true = grind (arith, nat_tests) in
    by_room (nat_lt (length core.trace) core.limit) (is_running (hart_at core.state hart).status) (rw (inside, missing) at answer)
  where
    by_room : (room runs : Bool) → ◌≡◌ {A = Option StepFault} (Some NoSuchHart)
        (if not room then Some TraceFull else if not runs then Some HartStopped else None) → ⊥
    by_room false runs is = cc
    by_room true false is = cc
    by_room true true is = cc
