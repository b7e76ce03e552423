-- The events of a run and their facts, one by one, and a core that takes a run's operations once more.
use Rattle.std.proofs.Common.{◌≡◌, ℕ, zero, suc, ◌+◌, ◌<◌, ◌≤◌, Bool, true, false, not, List, [], ◌∷◌, ◌++◌, length, take, get_or, map, refl, ap, sym, subst, ◌∙◌, arith, length-take}
use Rattle.std.specs.Prelude.{nat_lt, if◌then◌else◌, Option, Some, None, Result, OnOk}
use Rattle.std.proofs.lemmas.Bool.{and_parts, lt-ltb}
use Rattle.std.proofs.lemmas.List.{length-map, take-map, map_more, get_or-map}
use Rattle.std.proofs.lemmas.Slice.Zip.{length-zip, get_or-zip}
use Rattle.cheri_model.specs.declared.operation.Op.{Op}
use Rattle.cheri_model.specs.declared.operation.Op.TheVariants as operation
use Rattle.cheri_model.specs.declared.operation.Event.{Event}
use Rattle.cheri_model.specs.runs.Image.{ImageParts}
use Rattle.cheri_model.specs.runs.Sweeps.{is_range}
use Rattle.cheri_model.specs.runs.Machine.{MachineState, opening_state, may_take, is_running, hart_at, state_after_one, event_of}
use Rattle.cheri_model.specs.runs.Replay.{IsReplay, state_after, is_legal, replayed_state, replayed_events, operation_of, operations_of}
use Rattle.cheri_model.proofs.Runs.Replays.{state_after_push, operations_of_push, length-operations_of, operation-event_of}
use Rattle.origins.specs.declared.place.Place.{Place}
use Rattle.origins.specs.Origins.{Origins, came_from, origins_after, replayed_origins}
use Rattle.facts.specs.EventFacts.{EventFacts, step, sweep, swept_places, facts_of, facts_along, replayed_facts}
use Rattle.cores.specs.declared.faults.StepFault.TheVariants.{NoSuchHart, TraceFull, HartStopped, BadRange}
use Rattle.cores.specs.declared.faults.StepFault.{StepFault}
use Rattle.cores.specs.Cores.{CoreParts, opening_core, refused, core_after, unless_kept, unless_refused, applied}
use Rattle.facts.specs.declared.step_facts.StepFacts.{StepFacts}
use Rattle.following.specs.Following.{answered_step, next_facts as next_step_facts}
use Rattle.explanations.specs.Explanation.{Explained, explained_events}
use Rattle.explanations.specs.NextFacts.{next_facts}

along_at : (image : ImageParts) (state : MachineState) (origins : Origins) (order : List Op) (k : ℕ) (e op : Op) (d : EventFacts)
    → k < length order → op ≡ get_or order k e
    → facts_of image (state_after image state (take k order)) (origins_after image state origins (take k order)) op
    ≡ get_or (facts_along image state origins order) k d
unfolding facts_along state_after origins_after
along_at image state origins [] k e op d room is = absurd (omega arith)
along_at image state origins (x ∷ rest) zero e op d room is = ap (facts_of image state origins) is
along_at image state origins (x ∷ rest) (suc k) e op d room is =
    along_at image (state_after_one image state x) (λ place. origins (came_from image state x place)) rest k e op d (omega arith) is

along_length : (image : ImageParts) (state : MachineState) (origins : Origins) (order : List Op)
    → length (facts_along image state origins order) ≡ length order
unfolding facts_along
along_length image state origins [] = refl
along_length image state origins (x ∷ rest) =
    ap suc (along_length image (state_after_one image state x) (λ place. origins (came_from image state x place)) rest)

legal_from : (image : ImageParts) (state : MachineState) (order : List Op) (k : ℕ) (e op : Op)
    → is_legal image state order ≡ true → k < length order → op ≡ get_or order k e
    → may_take (state_after image state (take k order)) op ≡ true
unfolding is_legal state_after
legal_from image state [] k e op legal room is = absurd (omega arith)
legal_from image state (x ∷ rest) zero e op legal room is =
    ap (may_take state) is ∙ (and_parts (may_take state x) _ legal).0
legal_from image state (x ∷ rest) (suc k) e op legal room is =
    legal_from image (state_after_one image state x) rest k e op
    (and_parts (may_take state x) _ legal).1 (omega arith) is

-- ---- a core whose operations are taken once more

pub facts_length : (image : ImageParts) (trace : List Event)
    → length (replayed_facts image (operations_of trace)) ≡ length trace
unfolding replayed_facts operations_of
facts_length image trace =
    along_length image (opening_state image) (λ place. place) (map operation_of trace) ∙ length-map trace operation_of

-- a core of the same image and limit that took the first k operations of an order
pub record IsAt (image : ImageParts) (limit : ℕ) (order : List Op) (k : ℕ) (core : CoreParts) : Type 0 where
  pub image_is : core.image ≡ image
  pub limit_is : core.limit ≡ limit
  pub taken : operations_of core.trace ≡ take k order
  pub state_is : core.state ≡ replayed_state image (take k order)

pub at_opening : (image : ImageParts) (limit : ℕ) (order : List Op) (core : CoreParts) → core ≡ opening_core image limit → IsAt image limit order 0 core
unfolding operations_of replayed_state state_after
at_opening image limit order core is = subst (IsAt image limit order 0) (sym is) (record { image_is = refl; limit_is = refl; taken = refl; state_is = refl })

by_tests : (there room runs : Bool) → there ≡ true → room ≡ true → runs ≡ true
    → (if not there then Some NoSuchHart else if not room then Some TraceFull else if not runs then Some HartStopped else None) ≡ None
by_tests there room runs a b c = rw (a, b, c) refl

by_range : (good room : Bool) → good ≡ true → room ≡ true
    → (if not good then Some BadRange else if not room then Some TraceFull else None) ≡ None
by_range good room a b = rw (a, b) refl

-- an operation that may be taken, where the trace has room
not_refused : (core : CoreParts) (op : Op) → may_take core.state op ≡ true → length core.trace < core.limit → refused core op ≡ None
unfolding refused may_take
not_refused core (operation.Step hart) may room =
    let parts = and_parts (nat_lt hart (length core.state.harts)) _ may in
    by_tests (nat_lt hart (length core.state.harts)) (nat_lt (length core.trace) core.limit) (is_running (hart_at core.state hart).status)
    parts.0 (lt-ltb (length core.trace) core.limit room) parts.1
not_refused core (operation.Sweep lo hi) may room =
    by_range (is_range lo hi) (nat_lt (length core.trace) core.limit) may (lt-ltb (length core.trace) core.limit room)

module _ (image : ImageParts) (trace : List Event) (limit k : ℕ) (e event : Event) (room : k < length trace) (is : event ≡ get_or trace k e) where
  here : operation_of event ≡ get_or (operations_of trace) k (operation_of e)
  unfolding operations_of
  here = ap operation_of is ∙ sym (get_or-map operation_of trace k e (operation_of e) room)

  within : k < length (operations_of trace)
  unfolding operations_of
  within = rw length-map room

  one_more : take (k + 1) (operations_of trace) ≡ take k (operations_of trace) ++ operation_of event ∷ []
  unfolding operations_of
  one_more = rw (take-map, take-map, is) (map_more operation_of trace k e room)

  module _ (replay : IsReplay image trace (replayed_state image (operations_of trace))) (fits : length trace ≤ limit)
      (core : CoreParts) (at : IsAt image limit (operations_of trace) k core) where
    length_is : length core.trace ≡ k
    unfolding operations_of
    length_is =
        omega (arith, ap length at.taken, length-take k (operations_of trace), within, length-operations_of core.trace)

    -- its next operation is not refused
    pub goes_on : refused core (operation_of event) ≡ None
    unfolding replayed_state
    goes_on =
        let legal : may_take (replayed_state image (take k (operations_of trace))) (operation_of event) ≡ true =
        legal_from image (opening_state image) (operations_of trace) k (operation_of e) (operation_of event) replay.legal within here in
        not_refused core (operation_of event) (ap (λ s. may_take s (operation_of event)) at.state_is ∙ legal)
        (omega (arith, length_is, at.limit_is))

    -- after it the core took one operation more
    pub at_next : (after : CoreParts) → after ≡ core_after core (operation_of event) → IsAt image limit (operations_of trace) (k + 1) after
    unfolding core_after replayed_state operations_of
    at_next after taken_it =
        subst (IsAt image limit (operations_of trace) (k + 1)) (sym taken_it) (record {
          image_is = at.image_is;
          limit_is = at.limit_is;
          taken =
              operations_of_push core.trace (event_of core.image core.state (operation_of event))
              ∙ (ap (λ op. operations_of core.trace ++ op ∷ []) (operation-event_of core.image core.state (operation_of event))
              ∙ (ap (λ o. o ++ operation_of event ∷ []) at.taken ∙ sym one_more));
          state_is =
              ap (λ i. state_after_one i core.state (operation_of event)) at.image_is
              ∙ (ap (λ s. state_after_one image s (operation_of event)) at.state_is
              ∙ (sym (state_after_push image (opening_state image) (take k (operations_of trace)) (operation_of event))
              ∙ ap (replayed_state image) (sym one_more)));
        })

    facts_are : (d : EventFacts) → next_facts core (operation_of event) ≡ get_or (replayed_facts image (operations_of trace)) k d
    unfolding replayed_facts replayed_state replayed_origins
    facts_are d =
        ap (λ i. facts_of i core.state (replayed_origins i (operations_of core.trace)) (operation_of event)) at.image_is
        ∙ (ap (λ s. facts_of image s (replayed_origins image (operations_of core.trace)) (operation_of event)) at.state_is
        ∙ (ap (λ o. facts_of image (replayed_state image (take k (operations_of trace))) (replayed_origins image o) (operation_of event)) at.taken
        ∙ along_at image (opening_state image) (λ place. place) (operations_of trace) k (operation_of e) (operation_of event) d within here))

    -- the event and its facts are those of the run
    pub explained_at : (d : EventFacts)
        → ◌≡◌ {A = Explained} (event, next_facts core (operation_of event)) (get_or (explained_events image (operations_of trace)) k (e, d))
    explained_at d =
        let pairs = get_or-zip (replayed_events image (operations_of trace)) (replayed_facts image (operations_of trace)) k (e, d)
        (rw (← replay.events) room) (rw facts_length room) in
        let same : event ≡ get_or (replayed_events image (operations_of trace)) k e = is ∙ ap (λ es. get_or es k e) replay.events in
        (λ i. (same i, facts_are d i)) ∙ sym pairs

-- the trace of a core is the replay of its operations
pub replayed : (image : ImageParts) (trace : List Event) (state : MachineState) → IsReplay image trace state
    → IsReplay image trace (replayed_state image (operations_of trace))
replayed image trace state replay = subst (IsReplay image trace) replay.state replay

-- as many events are explained as there are
pub explained_length : (image : ImageParts) (trace : List Event) → IsReplay image trace (replayed_state image (operations_of trace))
    → length (explained_events image (operations_of trace)) ≡ length trace
explained_length image trace replay =
    omega (
      arith,
      length-zip (replayed_events image (operations_of trace)) (replayed_facts image (operations_of trace)),
      ap length replay.events,
      facts_length image trace,
    )

-- what is so of the event that is taken next, where a loop has the events as it reads them
pub record Turn (image : ImageParts) (trace : List Event) (limit k : ℕ) (e event : Event) (core : CoreParts) : Type 0 where
  pub goes : refused core (operation_of event) ≡ None
  pub inside : k < length (explained_events image (operations_of trace))
  pub explained : (d : EventFacts)
      → ◌≡◌ {A = Explained} (event, next_facts core (operation_of event)) (get_or (explained_events image (operations_of trace)) k (e, d))
  pub next : (after : CoreParts) → after ≡ core_after core (operation_of event) → IsAt image limit (operations_of trace) (k + 1) after

pub turn : (image : ImageParts) (trace entries : List Event) (limit k : ℕ) (e event : Event) (state : MachineState) (core : CoreParts)
    → entries ≡ trace → k < length entries → event ≡ get_or entries k e → IsReplay image trace state → length trace ≤ limit
    → IsAt image limit (operations_of trace) k core → Turn image trace limit k e event core
turn image trace entries limit k e event state core same room is replay fits at =
    let room_in : k < length trace = rw same at room in
    let is_in : event ≡ get_or trace k e = is ∙ ap (λ (es : List Event). get_or es k e) same in
    let whole = replayed image trace state replay in
    record {
      goes = goes_on image trace limit k e event room_in is_in whole fits core at;
      inside = omega (arith, explained_length image trace whole);
      explained = explained_at image trace limit k e event room_in is_in whole fits core at;
      next = at_next image trace limit k e event room_in is_in whole fits core at;
    }

-- ---- what an operation that is not refused answers and leaves

pub sweep_answered : (core : CoreParts) (lo hi : ℕ) (places : List Place) → places ≡ swept_places lo hi core.state
    → sweep places ≡ next_facts core (operation.Sweep lo hi)
unfolding facts_of
sweep_answered core lo hi places is = ap sweep is

pub step_answered : (core : CoreParts) (hart : ℕ) (facts : StepFacts) → facts ≡ next_step_facts core hart
    → step facts ≡ next_facts core (operation.Step hart)
unfolding facts_of
step_answered core hart facts is = ap step is

pub step_applied : (core after : CoreParts) (op : Op) → after ≡ applied core op → refused core op ≡ None → after ≡ core_after core op
unfolding applied
step_applied core after op is none = is ∙ ap (λ r. unless_kept r core (core_after core op)) none

told_by : (core : CoreParts) (hart : ℕ) (facts : StepFacts) (refusal : Option StepFault) (result : Result (Unit {0}) StepFault)
    → result ≡ unless_refused refusal tt → OnOk result (facts ≡ next_step_facts core hart) → refusal ≡ None
    → step facts ≡ next_facts core (operation.Step hart)
told_by core hart facts None result is so none =
    step_answered core hart facts (subst (λ (r : Result (Unit {0}) StepFault). OnOk r (facts ≡ next_step_facts core hart)) is so)
told_by core hart facts (Some fault) result is so none = absurd cc

-- a step that is not refused tells its facts
pub step_told : (core : CoreParts) (hart : ℕ) (facts : StepFacts) (result : Result (Unit {0}) StepFault) → result ≡ answered_step core hart
    → OnOk result (facts ≡ next_step_facts core hart) → refused core (operation.Step hart) ≡ None
    → step facts ≡ next_facts core (operation.Step hart)
step_told core hart facts result is so none = told_by core hart facts (refused core (operation.Step hart)) result is so none

-- what was written of the facts of an event was written of those of its operation
pub told_in : (text : Explained → List ℕ) (kept written : List ℕ) (event : Event) (facts next : EventFacts)
    → written ≡ kept ++ text (event, facts) → facts ≡ next → written ≡ kept ++ text (event, next)
told_in text kept written event facts next is same = is ∙ ap (λ (f : EventFacts). kept ++ text (event, f)) same

pub ruleset steps_taken = (step_told, step_applied)
