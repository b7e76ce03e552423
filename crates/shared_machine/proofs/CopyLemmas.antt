-- What copies of a core keep, and what was seen of their order.
use Rattle.std.proofs.Common.{◌≡◌, ◌≢◌, ℕ, Bool, true, false, not, List, [], ◌∷◌, ◌++◌, length, fold, refl, sym, ap, subst, ◌∙◌, arith, ◌-◌, ◌<◌, length-append, get_or}
use Rattle.std.specs.Prelude.{None, Some, Option, Result, Ok, Err, nat_lt, if◌then◌else◌}
use Rattle.std.proofs.Math.Seq.{get_or-append_seam}
use Rattle.std.proofs.lemmas.List.{append-nil}
use mathlib.Core.List.{IsPrefix}
use Rattle.cheri_model.specs.declared.operation.Op.{Op}
use Rattle.cheri_model.specs.declared.operation.Op.TheVariants as operation
use Rattle.cheri_model.specs.declared.operation.Event.{Event}
use Rattle.cheri_model.specs.declared.operation.Event.TheVariants as event
use Rattle.cheri_model.specs.declared.trace.Entry.{Entry}
use Rattle.cheri_model.specs.runs.Image.{ImageParts}
use Rattle.cheri_model.specs.runs.Sweeps.{is_range}
use Rattle.cheri_model.specs.runs.Machine.{MachineState, opening_state, entry_of, event_of, state_after_one, is_running, hart_at}
use Rattle.cheri_model.specs.runs.Replay.{IsReplay, IsPrefixOf, events_of, operations_of, replayed_events}
use Rattle.cheri_model.proofs.Runs.Replays.{events_prefix}
use Rattle.seen_order.specs.declared.seen.Token.{Token}
use Rattle.seen_order.specs.Orders.{OrderName, order}
use Rattle.cores.specs.declared.faults.StepFault.{StepFault}
use Rattle.cores.specs.declared.faults.StepFault.TheVariants.{NoSuchHart, TraceFull, HartStopped, NoMemory, BadRange}
use Rattle.cores.specs.Cores.{CoreParts, applied, answered, answered_step, unless_refused, refused, core_after, unless_kept}
use Rattle.shared_machine.specs.Copies.{shown_after, IsShown}
use Rattle.shared_machine.specs.Machines.{MachineParts}
use Rattle.shared_machine.specs.declared.watching.shown.Shown.{Shown}
use Rattle.shared_machine.specs.declared.watching.shown.Ticket.{Ticket}
use Rattle.shared_machine.specs.declared.watching.shown.Ticket.TheVariants.{Take, Tell}
use Rattle.cores.proofs.CoreLemmas.{operations_after}

-- machines that are one have one core
pub core_is : {before after : MachineParts} → before ≡ after → before.core ≡ after.core
core_is same = ap (λ (m : MachineParts). m.core) same

-- a core's trace is that of its order
pub trace_of_core : (core : CoreParts) (image : ImageParts) → IsReplay core.image core.trace core.state → core.image ≡ image →
    replayed_events image (operations_of core.trace) ≡ core.trace
trace_of_core core image is same =
    ap (λ i. replayed_events i (operations_of core.trace)) (sym same) ∙ sym is.events

-- what begins the order begins the trace
pub trace_prefix : (image : ImageParts) (xs ys : List Op) → IsPrefix xs ys → IsPrefixOf (replayed_events image xs) (replayed_events image ys)
unfolding replayed_events
trace_prefix image xs ys p = events_prefix image (opening_state image) xs ys (p.0, sym p.1)

-- a replay has an event for each operation
length-events_of : (image : ImageParts) (state : MachineState) (order : List Op) → length (events_of image state order) ≡ length order
unfolding events_of
length-events_of image state [] = refl
length-events_of image state (op ∷ order) =
    let rest = length-events_of image (state_after_one image state op) order in omega (arith, rest)

pub length-replayed_events : (image : ImageParts) (order : List Op) → length (replayed_events image order) ≡ length order
unfolding replayed_events
length-replayed_events image order = length-events_of image (opening_state image) order

-- each trace begins with itself
pub prefix_self : (xs : List Event) → IsPrefixOf xs xs
prefix_self xs = ([], sym (append-nil xs))

pub applied_after : (core : CoreParts) (op : Op) → refused core op ≡ None → applied core op ≡ core_after core op
unfolding applied
applied_after core op is = ap (λ r. unless_kept r core (core_after core op)) is

pub image_after : (core : CoreParts) (op : Op) → (core_after core op).image ≡ core.image
unfolding core_after
image_after core op = refl

-- the tickets of an operation, and of what was then seen of the order
abbrev pub tickets_of : Op → Token → List Ticket
tickets_of op token = Take op ∷ Tell token ∷ []

pub grown_by : (tickets before : List Ticket) (first second : Ticket) → before ≡ first ∷ [] →
    tickets ≡ before ++ second ∷ [] → tickets ≡ first ∷ second ∷ []
grown_by tickets before first second one e = e ∙ ap (λ (ts : List Ticket). ts ++ second ∷ []) one

taking : (shown : Shown) (op : Op) → refused shown.core op ≡ None → (shown_after shown (Take op)).core ≡ core_after shown.core op
unfolding shown_after
taking shown op is = applied_after shown.core op is

-- copies after the tickets of an operation that is not refused
pub taken_core : (shown : Shown) (op : Op) (token : Token) (tickets : List Ticket) → refused shown.core op ≡ None →
    tickets ≡ tickets_of op token → (fold shown_after shown tickets).core ≡ core_after shown.core op
unfolding shown_after
taken_core shown op token tickets is e =
    ap (λ (ts : List Ticket). (fold shown_after shown ts).core) e ∙ taking shown op is

pub taken_shown : (image : ImageParts) (name : OrderName) (shown : Shown) (op : Op) (token : Token) (tickets : List Ticket) →
    refused shown.core op ≡ None → tickets ≡ tickets_of op token → token.seen.book ≡ name.book →
    order name.first token.seen.log ≡ operations_of shown.core.trace ++ op ∷ [] → IsShown image name shown →
    IsShown image name (fold shown_after shown tickets)
unfolding shown_after
taken_shown image name shown op token tickets is e book new old =
    let after = applied_after shown.core op is in
    let both : IsShown image name (fold shown_after shown (tickets_of op token)) = record {
      image_is = ap (λ (c : CoreParts). c.image) after ∙ (image_after shown.core op ∙ old.image_is);
      book_is = book;
      order_is = new ∙ (sym (operations_after shown.core op) ∙ ap (λ (c : CoreParts). operations_of c.trace) (sym after));
    } in
    subst (λ (ts : List Ticket). IsShown image name (fold shown_after shown ts)) (sym e) both

-- a core never refuses an operation with NoMemory
pub refused_for_another : (core : CoreParts) (op : Op) (fault : StepFault) → Some fault ≡ refused core op → fault ≢ NoMemory
unfolding refused
refused_for_another core (operation.Step hart) fault is memory =
    by_tests (nat_lt hart (length core.state.harts)) (nat_lt (length core.trace) core.limit) (is_running (hart_at core.state hart).status)
    (ap (λ (f : StepFault). Some f) (sym memory) ∙ is)
  where
    by_tests : (there room runs : Bool) → ◌≡◌ {A = Option StepFault} (Some NoMemory)
        (if not there then Some NoSuchHart else if not room then Some TraceFull else if not runs then Some HartStopped else None) → ⊥
    by_tests false room runs is = cc
    by_tests true false runs is = cc
    by_tests true true false is = cc
    by_tests true true true is = cc
refused_for_another core (operation.Sweep lo hi) fault is memory =
    by_tests (is_range lo hi) (nat_lt (length core.trace) core.limit) (ap (λ (f : StepFault). Some f) (sym memory) ∙ is)
  where
    by_tests : (range room : Bool) → ◌≡◌ {A = Option StepFault} (Some NoMemory)
        (if not range then Some BadRange else if not room then Some TraceFull else None) → ⊥
    by_tests false room is = cc
    by_tests true false is = cc
    by_tests true true is = cc

-- and a step never with BadRange
pub step_refused_for_another : (core : CoreParts) (hart : ℕ) (fault : StepFault) → Some fault ≡ refused core (operation.Step hart) → fault ≢ BadRange
unfolding refused
step_refused_for_another core hart fault is range =
    by_tests (nat_lt hart (length core.state.harts)) (nat_lt (length core.trace) core.limit) (is_running (hart_at core.state hart).status)
    (ap (λ (f : StepFault). Some f) (sym range) ∙ is)
  where
    by_tests : (there room runs : Bool) → ◌≡◌ {A = Option StepFault} (Some BadRange)
        (if not there then Some NoSuchHart else if not room then Some TraceFull else if not runs then Some HartStopped else None) → ⊥
    by_tests false room runs is = cc
    by_tests true false runs is = cc
    by_tests true true false is = cc
    by_tests true true true is = cc

-- what an operation answers: why it is refused, or the newest event of the trace that it leaves
pub refused_answered : (core : CoreParts) (op : Op) (fault : StepFault) → Some fault ≡ refused core op →
    ◌≡◌ {A = Result Event StepFault} (Err fault) (answered core op)
unfolding answered
refused_answered core op fault is = ap (λ r. unless_refused r (event_of core.image core.state op)) is

pub taken_answered : (core after : CoreParts) (op : Op) (added : Event) → refused core op ≡ None → after ≡ core_after core op →
    ((before : List Event) (newest : Event) → after.trace ≡ before ++ newest ∷ [] → added ≡ newest) →
    ◌≡◌ {A = Result Event StepFault} (Ok added) (answered core op)
unfolding answered core_after
taken_answered core after op added none is newest =
    let last : Event = event_of core.image core.state op in
    let same : added ≡ last = newest core.trace last (ap (λ (k : CoreParts). k.trace) is) in
    let good : ◌≡◌ {A = Result Event StepFault} (Ok added) (Ok last) = ap (λ (e : Event). Ok e) same in
    good ∙ sym (ap (λ r. unless_refused r last) none)

-- and a step: the entry of that event
pub refused_step_answered : (core : CoreParts) (hart : ℕ) (fault : StepFault) → Some fault ≡ refused core (operation.Step hart) →
    ◌≡◌ {A = Result Entry StepFault} (Err fault) (answered_step core hart)
unfolding answered_step
refused_step_answered core hart fault is = ap (λ r. unless_refused r (entry_of core.image core.state hart)) is

pub ends_with_step : (core after : CoreParts) (hart : ℕ) → after ≡ core_after core (operation.Step hart) →
    after.trace ≡ core.trace ++ event.Step (entry_of core.image core.state hart) ∷ []
unfolding core_after event_of
ends_with_step core after hart is = ap (λ (k : CoreParts). k.trace) is

pub taken_step_answered : (core after : CoreParts) (hart : ℕ) (entry : Entry) → refused core (operation.Step hart) ≡ None →
    after ≡ core_after core (operation.Step hart) →
    ((before : List Event) (newest : Entry) → after.trace ≡ before ++ event.Step newest ∷ [] → entry ≡ newest) →
    ◌≡◌ {A = Result Entry StepFault} (Ok entry) (answered_step core hart)
unfolding answered_step
taken_step_answered core after hart entry none is newest =
    let last : Entry = entry_of core.image core.state hart in
    let same : entry ≡ last = newest core.trace last (ends_with_step core after hart is) in
    let good : ◌≡◌ {A = Result Entry StepFault} (Ok entry) (Ok last) = ap (λ (e : Entry). Ok e) same in
    good ∙ sym (ap (λ r. unless_refused r last) none)

pub after_some : (core after : CoreParts) (op : Op) → after ≡ core_after core op → 0 < length after.trace
unfolding core_after
after_some core after op is =
    let count : length after.trace ≡ length (core.trace ++ event_of core.image core.state op ∷ []) = ap (λ (k : CoreParts). length k.trace) is in
    omega (arith, count, length-append core.trace (event_of core.image core.state op ∷ []))

-- the newest of some events stands at the last place
pub read_newest : (events before : List Event) (newest other : Event) → events ≡ before ++ newest ∷ [] →
    get_or events (length events - 1) other ≡ newest
read_newest events before newest other is =
    let count : length events ≡ length (before ++ newest ∷ []) = ap length is in
    let place : length events - 1 ≡ length before = omega (arith, count, length-append before (newest ∷ [])) in
    ap (λ n. get_or events n other) place
    ∙ (ap (λ (es : List Event). get_or es (length before) other) is ∙ get_or-append_seam before newest [] other)
