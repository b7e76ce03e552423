-- Runs of orders, one operation after another.
use Rattle.std.proofs.Common.{◌≡◌, ℕ, ◌+◌, ◌<◌, ◌≤◌, List, [], ◌∷◌, ◌++◌, length, take, get_or, refl, length-append, append_assoc, sym, ap, subst, ◌∙◌, arith}
use Rattle.std.specs.Prelude.{Option, Some, None, Result, Ok, Err, slice_get, IsSomeAnd}
use Rattle.std.proofs.Math.Seq.{get_or-append_seam, take-append_seam}
use Rattle.std.proofs.lemmas.List.{append-nil}
use Rattle.std.proofs.lemmas.Option.{slice_get-get_or}
use Rattle.cheri_model.specs.declared.operation.Op.{Op}
use Rattle.cheri_model.specs.declared.operation.Event.{Event}
use Rattle.cheri_model.specs.runs.Image.{ImageParts}
use Rattle.cheri_model.specs.runs.Machine.{event_of}
use Rattle.cheri_model.specs.runs.Replay.{operations_of}
use Rattle.cores.specs.declared.faults.StepFault.{StepFault}
use Rattle.cores.specs.Cores.{CoreParts, IsCore, answered, core_after, opening_core, refused, unless_refused}
use Rattle.cores.specs.Runs.{RunsAreReplays, RunsTakeAll, TakesAll, run_from, run_of, unless_stopped}
use Rattle.cores.proofs.CoreLemmas.{core_applied, opened, operations_after}

-- an operation keeps the image and the limit
kept_image : (core : CoreParts) (op : Op) → (core_after core op).image ≡ core.image
unfolding core_after
kept_image core op = refl

kept_limit : (core : CoreParts) (op : Op) → (core_after core op).limit ≡ core.limit
unfolding core_after
kept_limit core op = refl

-- a run goes on after an operation that was taken
pub goes_on : (core after : CoreParts) (place : ℕ) (next : Op) (rest : List Op) (event : Event) →
    ◌≡◌ {A = Result Event StepFault} (Ok event) (answered core next) → after ≡ core_after core next →
    run_from core place (next ∷ rest) ≡ run_from after (place + 1) rest
unfolding run_from answered
goes_on core after place next rest event is same =
    by_refusal (refused core next) is ∙ ap (λ (k : CoreParts). run_from k (place + 1) rest) (sym same)
  where
    by_refusal : (r : Option StepFault) →
        ◌≡◌ {A = Result Event StepFault} (Ok event) (unless_refused r (event_of core.image core.state next)) →
        unless_stopped r core place (run_from (core_after core next) (place + 1) rest) ≡ run_from (core_after core next) (place + 1) rest
    by_refusal None is = refl
    by_refusal (Some fault) is = absurd cc

-- and stops at one that is refused
pub stops : (core : CoreParts) (place : ℕ) (next : Op) (rest : List Op) (fault : StepFault) →
    ◌≡◌ {A = Result Event StepFault} (Err fault) (answered core next) →
    run_from core place (next ∷ rest) ≡ (core, Some (place, fault))
unfolding run_from answered
stops core place next rest fault is = by_refusal (refused core next) is
  where
    by_refusal : (r : Option StepFault) →
        ◌≡◌ {A = Result Event StepFault} (Err fault) (unless_refused r (event_of core.image core.state next)) →
        unless_stopped r core place (run_from (core_after core next) (place + 1) rest) ≡ (core, Some (place, fault))
    by_refusal None is = absurd cc
    by_refusal (Some other) is =
        let same : fault ≡ other = cc in
        ap (λ (f : StepFault). (core, Some (place, f))) (sym same)

-- and at the order's end
pub ends : (core : CoreParts) (place : ℕ) (left : List Op) → left ≡ [] → run_from core place left ≡ (core, None)
unfolding run_from
ends core place left none = ap (run_from core place) none

-- one event more
pub longer : (core after : CoreParts) (next : Op) → after ≡ core_after core next → length after.trace ≡ length core.trace + 1
unfolding core_after
longer core after next is =
    let n = ap (λ (k : CoreParts). length k.trace) is in
    let m = length-append core.trace (event_of core.image core.state next ∷ []) in
    omega (arith, n, m)

-- a stop at the next operation, of an order that begins with what was taken
stopped_at : (core : CoreParts) (order rest : List Op) (place : ℕ) (next : Op) (fault : StepFault) →
    operations_of core.trace ++ next ∷ rest ≡ order → place ≡ length (operations_of core.trace) →
    refused core next ≡ Some fault → (operations_of core.trace ≡ take place order)
    × IsSomeAnd (slice_get order place) (λ op. refused core op ≡ Some fault)
stopped_at core order rest place next fault whole at is =
    let done = operations_of core.trace in
    let n = length-append done (next ∷ rest) in
    let inside : length done < length (done ++ next ∷ rest) = omega (arith, n) in
    let found : slice_get (done ++ next ∷ rest) (length done) ≡ Some next =
    slice_get-get_or (done ++ next ∷ rest) (length done) next inside ∙ ap Some (get_or-append_seam done next rest next) in
    let here : slice_get order place ≡ Some next =
    ap (λ (l : List Op). slice_get l place) (sym whole) ∙ ap (slice_get (done ++ next ∷ rest)) at ∙ found in (
      sym (ap (λ (l : List Op). take place l) (sym whole) ∙ ap (λ n. take n (done ++ next ∷ rest)) at ∙ take-append_seam done (next ∷ rest)),
      subst (λ (o : Option Op). IsSomeAnd o (λ op. refused core op ≡ Some fault)) (sym here) is,
    )

-- the run of what is left of an order takes the order as far as it can be taken
takes : (image : ImageParts) (limit : ℕ) (order : List Op) (core : CoreParts) (place : ℕ) (left : List Op) →
    core.image ≡ image → core.limit ≡ limit → operations_of core.trace ++ left ≡ order →
    place ≡ length (operations_of core.trace) → TakesAll image order limit (run_from core place left)
unfolding run_from
takes image limit order core place [] same_image same_limit whole at = record {
  image_is = same_image;
  limit_is = same_limit;
  taken = sym (append-nil (operations_of core.trace)) ∙ whole;
  refused = tt;
}
takes image limit order core place (next ∷ rest) same_image same_limit whole at =
    by (refused core next) refl
    (takes image limit order after (place + 1) rest (kept_image core next ∙ same_image) (kept_limit core next ∙ same_limit) left_whole next_place)
  where
    after : CoreParts
    after = core_after core next

    grown : operations_of after.trace ≡ operations_of core.trace ++ next ∷ []
    grown = operations_after core next

    left_whole : operations_of after.trace ++ rest ≡ order
    left_whole = ap (λ (l : List Op). l ++ rest) grown ∙ append_assoc (operations_of core.trace) (next ∷ []) rest ∙ whole

    next_place : place + 1 ≡ length (operations_of after.trace)
    next_place = ap (λ n. n + 1) at ∙ sym (ap length grown ∙ length-append (operations_of core.trace) (next ∷ []))

    by : (r : Option StepFault) → refused core next ≡ r → TakesAll image order limit (run_from after (place + 1) rest) →
        TakesAll image order limit (unless_stopped r core place (run_from after (place + 1) rest))
    by None is later = later
    by (Some fault) is later =
        let stop = stopped_at core order rest place next fault whole at is in
        record { image_is = same_image; limit_is = same_limit; taken = stop.0; refused = stop.1 }

pub take_all : RunsTakeAll
unfolding run_of operations_of
take_all image order limit = takes image limit order (opening_core image limit) 0 order refl refl refl refl

-- a core stays a core
stays : (core : CoreParts) (place : ℕ) (left : List Op) → IsCore core → IsCore (run_from core place left).0
unfolding run_from
stays core place [] is = is
stays core place (next ∷ rest) is =
    by (refused core next) refl (λ none. stays (core_after core next) (place + 1) rest (core_applied core next is none))
  where
    by : (r : Option StepFault) → refused core next ≡ r →
        (refused core next ≡ None → IsCore (run_from (core_after core next) (place + 1) rest).0) →
        IsCore (unless_stopped r core place (run_from (core_after core next) (place + 1) rest)).0
    by None none later = later none
    by (Some fault) stopped later = is

pub are_replays : RunsAreReplays
unfolding run_of
are_replays image order limit lawful limited = stays (opening_core image limit) 0 order (opened image limit lawful limited)
