-- Texts that a sink takes one after another, and a run that is taken up to a place.
use Rattle.std.proofs.Common.{◌≡◌, ℕ, Bool, ◌+◌, ◌<◌, ◌≤◌, List, [], ◌++◌, Option, length, take, min, get_or, refl, ap, sym, ◌∙◌, append_assoc, arith, length-take, get_or-take}
use Rattle.std.specs.Io.KnownBytes.{Appends}
use Rattle.std.proofs.KnownBytes.{Appends-trans}
use Rattle.std.proofs.lemmas.List.{take_min}
use Rattle.sinks.specs.Sinks.{TakesPrefix}
use Rattle.sinks.proofs.SinkLemmas.{begins_on, stops_on, puts_all}
use Rattle.cheri_model.specs.declared.operation.Op.{Op}
use Rattle.cheri_model.specs.declared.operation.Event.{Event}
use Rattle.cheri_model.specs.runs.Image.{ImageParts}
use Rattle.cheri_model.specs.runs.Machine.{MachineState}
use Rattle.cheri_model.specs.runs.Replay.{IsReplay, operations_of, replayed_state}
use Rattle.cheri_model.proofs.Runs.Replays.{length-operations_of}
use Rattle.origins.specs.Origins.{replayed_origins}
use Rattle.cores.specs.Cores.{CoreParts}
use Rattle.following.specs.Following.{origins_now}
use Rattle.explanations.proofs.RunLemmas.{IsAt, Turn, turn}
use Rattle.explained_page.specs.Page.{is_too_long}

-- ---- one text, and then another

pub then_whole : (old now new : Option (List ℕ)) (first second : List ℕ) → Appends old now first → Appends now new second
    → Appends old new (first ++ second)
then_whole old now new first second before after = Appends-trans old now new first second before after

pub then_stops : (old now new : Option (List ℕ)) (first second : List ℕ) → Appends old now first → TakesPrefix now new second
    → TakesPrefix old new (first ++ second)
then_stops old now new first second before stop =
    stops_on old now new [] first second (puts_all old now [] first first refl refl before) stop

pub stops_before : (old new : Option (List ℕ)) (first second : List ℕ) → TakesPrefix old new first → TakesPrefix old new (first ++ second)
stops_before old new first second stop = begins_on old new first second stop

pub ruleset texts_follow = (then_whole, then_stops, stops_before)

-- ---- a place in a run

-- the event that is taken next, where a loop has the first events, this many
pub turn_within : (image : ImageParts) (trace entries some : List Event) (limit k last : ℕ) (e event : Event) (state : MachineState)
    (core : CoreParts) → entries ≡ trace → some ≡ take last entries → k < length some → event ≡ get_or some k e → IsReplay image trace state
    → length trace ≤ limit → IsAt image limit (operations_of trace) k core → Turn image trace limit k e event core
turn_within image trace entries some limit k last e event state core same first room is replay fits at =
    let short : length some ≡ length (take last entries) = ap length first in
    let counted : length (take last entries) ≡ min last (length entries) = length-take last entries in
    let within : k < last = omega (arith, short, counted, room) in
    let inside : k < length entries = omega (arith, short, counted, room) in
    let there : event ≡ get_or entries k e = is ∙ (ap (λ (es : List Event). get_or es k e) first ∙ get_or-take last entries k e within) in
    turn image trace entries limit k e event state core same inside there replay fits at

-- the order up to a place that may lie beyond its end
taken_up_to : (count events : ℕ) (trace : List Event) → events ≡ length trace
    → take (min count events) (operations_of trace) ≡ take count (operations_of trace)
taken_up_to count events trace is =
    ap (λ n. take (min count n) (operations_of trace)) (is ∙ sym (length-operations_of trace))
    ∙ take_min count (operations_of trace)

pub state_there : (image : ImageParts) (limit count events last number : ℕ) (trace : List Event) (core : CoreParts) → events ≡ length trace
    → last ≡ min count events → number ≡ last → IsAt image limit (operations_of trace) number core
    → core.state ≡ replayed_state image (take count (operations_of trace))
state_there image limit count events last number trace core is same ended at =
    at.state_is
    ∙ ap (λ n. replayed_state image (take n (operations_of trace))) (ended ∙ same)
    ∙ ap (replayed_state image) (taken_up_to count events trace is)

pub origins_there : (image : ImageParts) (limit count events last number : ℕ) (trace : List Event) (core : CoreParts) → events ≡ length trace
    → last ≡ min count events → number ≡ last → IsAt image limit (operations_of trace) number core
    → origins_now core ≡ replayed_origins image (take count (operations_of trace))
origins_there image limit count events last number trace core is same ended at =
    ap (λ i. replayed_origins i (operations_of core.trace)) at.image_is
    ∙ ap (replayed_origins image) at.taken
    ∙ ap (λ n. replayed_origins image (take n (operations_of trace))) (ended ∙ same)
    ∙ ap (replayed_origins image) (taken_up_to count events trace is)

-- ---- a page that is not too long

-- a test of the events that a view shows is one of the run
pub tested : (first last : ℕ) (entries trace : List Event) (answer test : Bool) → answer ≡ is_too_long first last (length entries)
    → entries ≡ trace → answer ≡ test → is_too_long first last (length trace) ≡ test
tested first last entries trace answer test is shown so = ap (λ (es : List Event). is_too_long first last (length es)) (sym shown) ∙ (sym is ∙ so)
