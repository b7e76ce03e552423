-- What an order followed by another does, and what one more legal operation does, to the state, the events and the
-- legality of an order.
use Rattle.std.proofs.Common.{◌≡◌, true, ◌&&◌, List, [], ◌∷◌, ◌++◌, length, map, ℕ, refl, sym, ap, ◌∙◌, arith}
use Rattle.std.proofs.lemmas.Bool.{and_parts}
use Rattle.std.proofs.lemmas.Grind.{common_steps}
use Rattle.std.proofs.lemmas.List.{length-map}
use Rattle.cheri_model.specs.declared.operation.Op.{Op}
use Rattle.cheri_model.specs.declared.operation.Op.TheVariants as operation
use Rattle.cheri_model.specs.declared.operation.Event.{Event}
use Rattle.cheri_model.specs.declared.operation.Event.TheVariants as event
use Rattle.cheri_model.specs.runs.Image.{ImageParts}
use Rattle.cheri_model.specs.runs.Machine.{MachineState, opening_state, may_take, state_after_step, entry_of, state_after_one, event_of}
use Rattle.cheri_model.specs.runs.Replay.{state_after, events_of, is_legal, operation_of, operations_of, replayed_state, replayed_events, IsReplay, IsPrefixOf, state_after_steps, are_legal_steps, entries_of_steps}

module _ (image : ImageParts) where
  pub state_after-append : (state : MachineState) (first later : List Op) →
      state_after image state (first ++ later) ≡ state_after image (state_after image state first) later
  unfolding state_after
  state_after-append state [] later = refl
  state_after-append state (op ∷ first) later = state_after-append (state_after_one image state op) first later

  pub events_of-append : (state : MachineState) (first later : List Op) →
      events_of image state (first ++ later) ≡ events_of image state first ++ events_of image (state_after image state first) later
  unfolding state_after events_of
  events_of-append state [] later = refl
  events_of-append state (op ∷ first) later =
      ap (λ es. event_of image state op ∷ es) (events_of-append (state_after_one image state op) first later)

  pub is_legal-append : (state : MachineState) (first later : List Op) →
      is_legal image state (first ++ later) ≡ (is_legal image state first && is_legal image (state_after image state first) later)
  unfolding state_after is_legal
  is_legal-append state [] later = grind (arith, common_steps)
  is_legal-append state (op ∷ first) later =
      let rest = is_legal-append (state_after_one image state op) first later in grind (arith, common_steps)

  -- a prefix of a legal order is legal, and its events are a prefix of the whole's
  pub legal_prefix : (state : MachineState) (first order : List Op) → IsPrefixOf first order →
      is_legal image state order ≡ true → is_legal image state first ≡ true
  legal_prefix state first order (later, is) legal =
      (and_parts (is_legal image state first) _ (rw (is, is_legal-append) at legal)).0

  pub events_prefix : (state : MachineState) (first order : List Op) → IsPrefixOf first order →
      IsPrefixOf (events_of image state first) (events_of image state order)
  events_prefix state first order (later, is) =
      (events_of image (state_after image state first) later, ap (events_of image state) is ∙ events_of-append state first later)

  pub state_after_push : (state : MachineState) (order : List Op) (op : Op) →
      state_after image state (order ++ op ∷ []) ≡ state_after_one image (state_after image state order) op
  unfolding state_after
  state_after_push state [] op = refl
  state_after_push state (first ∷ order) op = state_after_push (state_after_one image state first) order op

  pub events_of_push : (state : MachineState) (order : List Op) (op : Op) →
      events_of image state (order ++ op ∷ []) ≡ events_of image state order ++ event_of image (state_after image state order) op ∷ []
  unfolding state_after events_of
  events_of_push state [] op = refl
  events_of_push state (first ∷ order) op =
      ap (λ es. event_of image state first ∷ es) (events_of_push (state_after_one image state first) order op)

  pub is_legal_push : (state : MachineState) (order : List Op) (op : Op) →
      is_legal image state (order ++ op ∷ []) ≡ (is_legal image state order && may_take (state_after image state order) op)
  unfolding state_after is_legal
  is_legal_push state [] op = grind (arith, common_steps)
  is_legal_push state (first ∷ order) op =
      let rest = is_legal_push (state_after_one image state first) order op in grind (arith, common_steps)

-- an order without sweeps
pub state_after-steps : (image : ImageParts) (state : MachineState) (numbers : List ℕ) →
    state_after image state (map operation.Step numbers) ≡ state_after_steps image state numbers
unfolding state_after state_after_one state_after_steps
state_after-steps image state [] = refl
state_after-steps image state (number ∷ numbers) = state_after-steps image (state_after_step image state number) numbers

pub is_legal-steps : (image : ImageParts) (state : MachineState) (numbers : List ℕ) →
    is_legal image state (map operation.Step numbers) ≡ are_legal_steps image state numbers
unfolding is_legal may_take state_after_one are_legal_steps
is_legal-steps image state [] = refl
is_legal-steps image state (number ∷ numbers) =
    ap (λ rest. may_take state (operation.Step number) && rest)
    (is_legal-steps image (state_after_step image state number) numbers)

pub events_of-steps : (image : ImageParts) (state : MachineState) (numbers : List ℕ) →
    events_of image state (map operation.Step numbers) ≡ map event.Step (entries_of_steps image state numbers)
unfolding events_of event_of state_after_one entries_of_steps
events_of-steps image state [] = refl
events_of-steps image state (number ∷ numbers) =
    ap (λ es. event.Step (entry_of image state number) ∷ es) (events_of-steps image (state_after_step image state number) numbers)

pub operations_of_push : (trace : List Event) (event : Event) →
    operations_of (trace ++ event ∷ []) ≡ operations_of trace ++ operation_of event ∷ []
unfolding operations_of
operations_of_push trace event = grind (arith, common_steps)

pub length-operations_of : (trace : List Event) → length (operations_of trace) ≡ length trace
unfolding operations_of
length-operations_of trace = length-map trace operation_of

-- an operation's event records just this operation
pub operation-event_of : (image : ImageParts) (state : MachineState) (op : Op) → operation_of (event_of image state op) ≡ op
unfolding event_of entry_of
operation-event_of image state (operation.Step number) = refl
operation-event_of image state (operation.Sweep lo hi) = refl

-- A legal operation keeps the replay: the trace grows by its event, and the state is the one after it.
module _ (image : ImageParts) (trace : List Event) (state : MachineState) (op : Op) where
  operations_grown : operations_of (trace ++ event_of image state op ∷ []) ≡ operations_of trace ++ op ∷ []
  operations_grown =
      operations_of_push trace (event_of image state op) ∙ ap (λ n. operations_of trace ++ n ∷ []) (operation-event_of image state op)

  pub IsReplay_push : IsReplay image trace state → may_take state op ≡ true →
      IsReplay image (trace ++ event_of image state op ∷ []) (state_after_one image state op)
  unfolding replayed_state replayed_events
  IsReplay_push replay legal =
      let order = operations_of trace in
      let start = opening_state image in
      record {
        state = ap (λ s. state_after_one image s op) replay.state ∙ sym (state_after_push image start order op)
            ∙ ap (state_after image start) (sym operations_grown);
        events = ap (λ es. es ++ event_of image state op ∷ []) replay.events
            ∙ ap (λ s. events_of image start order ++ event_of image s op ∷ []) replay.state
            ∙ sym (events_of_push image start order op) ∙ ap (events_of image start) (sym operations_grown);
        legal = rw (operations_grown, is_legal_push image start order op, ← replay.state) (grind (arith, common_steps));
      }

pub IsReplay-opening : (image : ImageParts) → IsReplay image [] (opening_state image)
unfolding replayed_state replayed_events operations_of state_after events_of is_legal
IsReplay-opening image = record { state = refl; events = refl; legal = refl }
