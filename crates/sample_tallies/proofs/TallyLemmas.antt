-- Sums of tallies.
use Rattle.std.proofs.Common.{◌≡◌, ℕ, suc, ◌+◌, ◌≤◌, true, List, [], ◌∷◌, ◌++◌, length, map, refl, ap, sym, ◌∙◌, arith}
use Rattle.std.specs.Prelude.{Option, None, fold, max}
use Rattle.std.proofs.Math.Nat.{max_comm}
use Rattle.std.proofs.lemmas.List.{map-append}
use Rattle.std.proofs.lemmas.List.Sums.{fold-append}
use Rattle.std.proofs.lemmas.Bool.Decides.{nat_tests}
use Rattle.cheri_model.specs.declared.image.TheConstants.{MAX_HARTS}
use Rattle.cheri_model.specs.runs.Image.{ImageParts}
use Rattle.cheri_model.specs.runs.ImageRules.{is_image}
use Rattle.cap_model.specs.values.CapValue.{CapValue}
use Rattle.cheri_model.specs.steps.Hart.{HartState}
use Rattle.cheri_model.specs.runs.Machine.{MachineState}
use Rattle.sample_draws.specs.Drawings.{DrawingParts}
use Rattle.sample_draws.specs.Orders.{last_state}
use Rattle.sample_runs.specs.declared.runner.RunEnd.{RunEnd}
use Rattle.sample_runs.specs.Runners.{RunnerParts, state_of}
use Rattle.sample_runs.specs.Runs.{run_end, run_length}
use Rattle.sample_tallies.specs.declared.seen.Seen.{Seen}
use Rattle.sample_tallies.specs.declared.seen.TrapPlace.{TrapPlace}
use Rattle.sample_tallies.specs.Tables.{Entry, seen_once, either, with_entries}
use Rattle.sample_tallies.specs.SameStates.{same_state, same_place}
use Rattle.sample_tallies.specs.Tallies.{TallyParts, empty, add, of_run, one, tally, numbers_from}
use Rattle.sample_tallies.specs.Tallies.{cut_by, hung_by, ended_by, traps_from}
use Rattle.sample_tallies.specs.Sums.{SayTheSame}
use Rattle.sample_tallies.proofs.SameLemmas.{states_same, places_same}
use Rattle.sample_tallies.proofs.TableLemmas.{either_none, either_assoc, either_comm, sums_assoc, sums_say_the_same}

abbrev pub with_parts : (runs longest : ℕ) (cut hung : Option Seen) → List (Entry TrapPlace) → List (Entry MachineState)
    → TallyParts
with_parts runs longest cut hung traps ends =
    record { runs = runs; longest = longest; cut = cut; hung = hung; traps = traps; ends = ends }

longest_assoc : (a b c : ℕ) → max (max a b) c ≡ max a (max b c)
longest_assoc a b c = omega arith

pub add_assoc : (a b c : TallyParts) → add (add a b) c ≡ add a (add b c)
unfolding add
add_assoc a b c =
    let runs : a.runs + b.runs + c.runs ≡ a.runs + (b.runs + c.runs) = omega arith in
    let longest = longest_assoc a.longest b.longest c.longest in
    let cut = either_assoc a.cut b.cut c.cut in
    let hung = either_assoc a.hung b.hung c.hung in
    let traps = sums_assoc same_place places_same c.traps a.traps b.traps in
    let ends = sums_assoc same_state states_same c.ends a.ends b.ends in
    cc

pub add_empty : (a : TallyParts) → add a empty ≡ a
unfolding add
add_empty a =
    let runs : a.runs + 0 ≡ a.runs = omega arith in
    let longest : max a.longest 0 ≡ a.longest = omega arith in
    let cut = either_none a.cut in
    let hung = either_none a.hung in
    let made : with_parts (a.runs + 0) (max a.longest 0) (either a.cut None) (either a.hung None) a.traps a.ends
    ≡ with_parts a.runs a.longest a.cut a.hung a.traps a.ends = cc in
    made

-- tallies that are added to one, and to none at first
added : (ts : List TallyParts) (a : TallyParts) → fold add a ts ≡ add a (fold add empty ts)
added [] a = sym (add_empty a)
added (t ∷ ts) a =
    added ts (add a t) ∙ add_assoc a t (fold add empty ts)
    ∙ ap (λ (b : TallyParts). add b (add t (fold add empty ts))) (sym (add_empty a))
    ∙ add_assoc a empty (add t (fold add empty ts))
    ∙ ap (add a) (sym (add_assoc empty t (fold add empty ts)) ∙ sym (added ts (add empty t)))

pub slices_sum : (image : ImageParts) (drawing : DrawingParts) (numbers more : List ℕ)
    → tally image drawing (numbers ++ more) ≡ add (tally image drawing numbers) (tally image drawing more)
unfolding tally
slices_sum image drawing numbers more =
    ap (fold add empty) (map-append (one image drawing) numbers more)
    ∙ fold-append add empty (map (one image drawing) numbers) (map (one image drawing) more)
    ∙ added (map (one image drawing) more) (fold add empty (map (one image drawing) numbers))

-- a run more
pub run_more : (image : ImageParts) (drawing : DrawingParts) (numbers : List ℕ) (number : ℕ)
    → tally image drawing (numbers ++ number ∷ []) ≡ add (tally image drawing numbers) (one image drawing number)
unfolding tally
run_more image drawing numbers number =
    ap (fold add empty) (map-append (one image drawing) numbers (number ∷ []))
    ∙ fold-append add empty (map (one image drawing) numbers) (one image drawing number ∷ [])

pub sums_the_same : (a b : TallyParts) → SayTheSame (add a b) (add b a)
unfolding add
sums_the_same a b =
    record {
      runs = omega arith;
      longest = max_comm a.longest b.longest;
      cut = either_comm a.cut b.cut;
      hung = either_comm a.hung b.hung;
      traps = sums_say_the_same same_place places_same a.traps b.traps;
      ends = sums_say_the_same same_state states_same a.ends b.ends;
    }

-- one number more, and its run
pub number_more : (image : ImageParts) (drawing : DrawingParts) (first count : ℕ)
    → tally image drawing (numbers_from first (count + 1))
    ≡ add (tally image drawing (numbers_from first count)) (one image drawing (first + count))
unfolding numbers_from
number_more image drawing first count =
    let next : count + 1 ≡ suc count = omega arith in
    ap (λ (n : ℕ). tally image drawing (numbers_from first n)) next
    ∙ run_more image drawing (numbers_from first count) (first + count)

-- what a run gave, in the parts that were measured
pub run_is_one : (image : ImageParts) (drawing : DrawingParts) (run length : ℕ) (end : RunEnd) (state : MachineState)
    → end ≡ run_end image drawing run → length ≡ run_length image drawing run → state ≡ last_state image drawing run
    → of_run run end length state ≡ one image drawing run
unfolding one
run_is_one image drawing run length end state ends long left =
    ap (λ (e : RunEnd). of_run run e length state) ends
    ∙ ap (λ (n : ℕ). of_run run (run_end image drawing run) n state) long
    ∙ ap (of_run run (run_end image drawing run) (run_length image drawing run)) left

-- no runs
pub none_yet : (image : ImageParts) (drawing : DrawingParts) (first : ℕ)
    → tally image drawing (numbers_from first 0) ≡ empty
unfolding tally numbers_from
none_yet image drawing first = refl

-- a tally with a run more, by its parts
pub noted : (old new : TallyParts) (run length : ℕ) (end : RunEnd) (state : MachineState) (seen : Seen)
    → seen ≡ seen_once run → new.runs ≡ old.runs + 1 → new.longest ≡ max old.longest length
    → new.cut ≡ either old.cut (cut_by end seen) → new.hung ≡ either old.hung (hung_by end seen)
    → new.traps ≡ with_entries same_place old.traps (traps_from 0 state.harts seen)
    → new.ends ≡ with_entries same_state old.ends (ended_by end state seen)
    → new ≡ add old (of_run run end length state)
unfolding add of_run
noted old new run length end state seen is runs longest cut hung traps ends =
    let cut_is : new.cut ≡ either old.cut (cut_by end (seen_once run)) =
    cut ∙ ap (λ (s : Seen). either old.cut (cut_by end s)) is in
    let hung_is : new.hung ≡ either old.hung (hung_by end (seen_once run)) =
    hung ∙ ap (λ (s : Seen). either old.hung (hung_by end s)) is in
    let traps_are : new.traps ≡ with_entries same_place old.traps (traps_from 0 state.harts (seen_once run)) =
    traps ∙ ap (λ (s : Seen). with_entries same_place old.traps (traps_from 0 state.harts s)) is in
    let ends_are : new.ends ≡ with_entries same_state old.ends (ended_by end state (seen_once run)) =
    ends ∙ ap (λ (s : Seen). with_entries same_state old.ends (ended_by end state s)) is in
    let made : with_parts new.runs new.longest new.cut new.hung new.traps new.ends
    ≡ with_parts (old.runs + 1) (max old.longest length) (either old.cut (cut_by end (seen_once run)))
    (either old.hung (hung_by end (seen_once run)))
    (with_entries same_place old.traps (traps_from 0 state.harts (seen_once run)))
    (with_entries same_state old.ends (ended_by end state (seen_once run))) = cc in
    made

-- a sum, by its parts
pub summed : (old other new : TallyParts) → new.runs ≡ old.runs + other.runs
    → new.longest ≡ max old.longest other.longest → new.cut ≡ either old.cut other.cut
    → new.hung ≡ either old.hung other.hung → new.traps ≡ with_entries same_place old.traps other.traps
    → new.ends ≡ with_entries same_state old.ends other.ends → new ≡ add old other
unfolding add
summed old other new runs longest cut hung traps ends =
    let made : with_parts new.runs new.longest new.cut new.hung new.traps new.ends
    ≡ with_parts (old.runs + other.runs) (max old.longest other.longest) (either old.cut other.cut)
    (either old.hung other.hung) (with_entries same_place old.traps other.traps)
    (with_entries same_state old.ends other.ends) = cc in
    made

-- an image has at most 8 harts
pub few_harts : (image : ImageParts) → is_image image ≡ true → length image.harts ≤ MAX_HARTS
unfolding is_image
few_harts image is = grind (arith, nat_tests)

abbrev state_with : List HartState → List CapValue → MachineState
state_with harts memory = record { harts = harts; memory = memory }

-- the state that a run left, as it is read
pub state_read : (runner : RunnerParts) (harts : List HartState) (memory : List CapValue) (s : MachineState)
    → harts ≡ runner.harts → memory ≡ runner.memory.now → state_of runner ≡ s
    → state_with harts memory ≡ s
state_read runner harts memory s hs ms is =
    let made : state_with harts memory ≡ state_with runner.harts runner.memory.now = cc in
    made ∙ is

-- the tally has a run more
pub counted_more : (image seen : ImageParts) (drawing : DrawingParts) (first done number length : ℕ) (end : RunEnd)
    (state : MachineState) (before after : TallyParts) → seen ≡ image → number ≡ first + done
    → before ≡ tally image drawing (numbers_from first done) → after ≡ add before (of_run number end length state)
    → end ≡ run_end seen drawing number → length ≡ run_length seen drawing number
    → state ≡ last_state seen drawing number → after ≡ tally image drawing (numbers_from first (done + 1))
counted_more image seen drawing first done number length end state before after same is before_is after_is ends long left =
    let t = tally image drawing (numbers_from first done) in
    after_is ∙ ap (λ (u : TallyParts). add u (of_run number end length state)) before_is
    ∙ ap (add t) (run_is_one seen drawing number length end state ends long left)
    ∙ ap (λ (i : ImageParts). add t (one i drawing number)) same
    ∙ ap (λ (n : ℕ). add t (one image drawing n)) is
    ∙ sym (number_more image drawing first done)
