-- First runs that can be drawn again.
use Rattle.std.proofs.Common.{◌≡◌, ◌≤◌, ◌+◌, ℕ, zero, suc, Bool, true, false, List, [], ◌∷◌, All, length, refl, subst, arith}
use Rattle.std.specs.Prelude.{Option, Some, None, fold, map, if◌then◌else◌}
use Rattle.std.proofs.lemmas.Option.{same_Some}
use Rattle.std.proofs.lemmas.List.Elements.{All-nil, All-cons, All-head, All-tail, All-append, All-push}
use Rattle.cheri_model.specs.declared.trace.Status.{Status}
use Rattle.cheri_model.specs.declared.trace.Status.TheVariants.{Running, Halted, Trapped}
use Rattle.cheri_model.specs.steps.Hart.{HartState}
use Rattle.cheri_model.specs.runs.Image.{ImageParts}
use Rattle.cheri_model.specs.runs.Machine.{MachineState}
use Rattle.sample_draws.specs.declared.drawing.TheConstants.{MAX_RUN}
use Rattle.sample_draws.specs.Drawings.{DrawingParts}
use Rattle.sample_draws.specs.Orders.{last_state}
use Rattle.sample_runs.specs.declared.runner.RunEnd.{RunEnd}
use Rattle.sample_runs.specs.declared.runner.RunEnd.TheVariants.{Ended, Hung, Cut}
use Rattle.sample_runs.specs.Runs.{run_end, run_length}
use Rattle.sample_tallies.specs.declared.seen.Seen.{Seen}
use Rattle.sample_tallies.specs.declared.seen.TrapPlace.{TrapPlace}
use Rattle.sample_tallies.specs.Tables.{Entry, seen_once, both, either, with_entry, with_entries}
use Rattle.sample_tallies.specs.SameStates.{same_state, same_place}
use Rattle.sample_tallies.specs.Tallies.{TallyParts, empty, add, cut_by, hung_by, ended_by, trap_of, traps_from, of_run, one, tally, numbers_from}
use Rattle.sample_tallies.specs.Within.{is_drawable, IsWithin}

-- ---- of two

pub both_drawable : (a b : Seen) → is_drawable a → is_drawable (both a b)
both_drawable a b within = omega (arith, within)

-- what an option has
abbrev pub drawable_in : Option Seen → Type 0
drawable_in seen = (s : Seen) → seen ≡ Some s → is_drawable s

some_drawable : (s : Seen) → is_drawable s → drawable_in (Some s)
some_drawable s within t is = subst is_drawable (same_Some s t is) within

none_drawable : drawable_in None
none_drawable s is = absurd (cc)

pub either_drawable : (a b : Option Seen) → drawable_in a → drawable_in b → drawable_in (either a b)
either_drawable None b one other = other
either_drawable (Some a) None one other = one
either_drawable (Some a) (Some b) one other = some_drawable (both a b) (both_drawable a b (one a refl))

-- ---- tables

abbrev pub entry_drawable : {K : Type 0} → Entry K → Type 0
entry_drawable entry = is_drawable entry.seen

by_hit : {K : Type 0} (same : K → K → Bool) (b : Bool) (e m : Entry K) (es : List (Entry K))
    → entry_drawable e → entry_drawable m → All (λ (x : Entry K). is_drawable x.seen) es
    → All (λ (x : Entry K). is_drawable x.seen) (with_entry same es m)
    → All (λ (x : Entry K). is_drawable x.seen)
    (if b then (record e { seen = both e.seen m.seen }) ∷ es else e ∷ with_entry same es m)
by_hit {K} same true e m es first more rest others =
    All-cons (λ (x : Entry K). is_drawable x.seen) (record e { seen = both e.seen m.seen }) es
    (both_drawable e.seen m.seen first) rest
by_hit {K} same false e m es first more rest others =
    All-cons (λ (x : Entry K). is_drawable x.seen) e (with_entry same es m) first others

pub entry_within : {K : Type 0} (same : K → K → Bool) (table : List (Entry K)) (m : Entry K)
    → All (λ (x : Entry K). is_drawable x.seen) table → entry_drawable m
    → All (λ (x : Entry K). is_drawable x.seen) (with_entry same table m)
unfolding with_entry
entry_within {K} same [] m all more =
    All-cons (λ (x : Entry K). is_drawable x.seen) m [] more (All-nil (λ (x : Entry K). is_drawable x.seen))
entry_within {K} same (e ∷ es) m all more =
    let P : Entry K → Type 0 = λ x. is_drawable x.seen in
    let rest = All-tail P e es all in
    by_hit same (same e.key m.key) e m es (All-head P e es all) more rest (entry_within same es m rest more)

pub entries_within : {K : Type 0} (same : K → K → Bool) (more table : List (Entry K))
    → All (λ (x : Entry K). is_drawable x.seen) table → All (λ (x : Entry K). is_drawable x.seen) more
    → All (λ (x : Entry K). is_drawable x.seen) (with_entries same table more)
entries_within {K} same [] table all others = all
entries_within {K} same (m ∷ ms) table all others =
    let P : Entry K → Type 0 = λ x. is_drawable x.seen in
    entries_within same ms (with_entry same table m) (entry_within same table m all (All-head P m ms others))
    (All-tail P m ms others)

-- ---- tallies

pub empty_within : IsWithin empty
empty_within = record {
  cut = none_drawable;
  hung = none_drawable;
  traps = All-nil (λ (x : Entry TrapPlace). is_drawable x.seen);
  ends = All-nil (λ (x : Entry MachineState). is_drawable x.seen);
}

pub sum_within : (a b : TallyParts) → IsWithin a → IsWithin b → IsWithin (add a b)
unfolding add
sum_within a b one other = record {
  cut = either_drawable a.cut b.cut one.cut other.cut;
  hung = either_drawable a.hung b.hung one.hung other.hung;
  traps = entries_within same_place b.traps a.traps one.traps other.traps;
  ends = entries_within same_state b.ends a.ends one.ends other.ends;
}

cut_within : (end : RunEnd) (seen : Seen) → is_drawable seen → drawable_in (cut_by end seen)
cut_within Ended seen within = none_drawable
cut_within Hung seen within = none_drawable
cut_within Cut seen within = some_drawable seen within

hung_within : (end : RunEnd) (seen : Seen) → is_drawable seen → drawable_in (hung_by end seen)
hung_within Ended seen within = none_drawable
hung_within Hung seen within = some_drawable seen within
hung_within Cut seen within = none_drawable

ended_within : (end : RunEnd) (state : MachineState) (seen : Seen) → is_drawable seen
    → All (λ (x : Entry MachineState). is_drawable x.seen) (ended_by end state seen)
ended_within Ended state seen within =
    All-cons (λ (x : Entry MachineState). is_drawable x.seen) (record { key = state; seen = seen }) [] within
    (All-nil (λ (x : Entry MachineState). is_drawable x.seen))
ended_within Hung state seen within = All-nil (λ (x : Entry MachineState). is_drawable x.seen)
ended_within Cut state seen within = All-nil (λ (x : Entry MachineState). is_drawable x.seen)

trap_within : (hart : ℕ) (status : Status) (seen : Seen) → is_drawable seen
    → All (λ (x : Entry TrapPlace). is_drawable x.seen) (trap_of hart status seen)
trap_within hart Running seen within = All-nil (λ (x : Entry TrapPlace). is_drawable x.seen)
trap_within hart Halted seen within = All-nil (λ (x : Entry TrapPlace). is_drawable x.seen)
trap_within hart (Trapped trap) seen within =
    All-cons (λ (x : Entry TrapPlace). is_drawable x.seen)
    (record { key = record { hart = hart; cause = trap.cause }; seen = seen }) [] within
    (All-nil (λ (x : Entry TrapPlace). is_drawable x.seen))

traps_within : (number : ℕ) (harts : List HartState) (seen : Seen) → is_drawable seen
    → All (λ (x : Entry TrapPlace). is_drawable x.seen) (traps_from number harts seen)
unfolding traps_from
traps_within number [] seen within = All-nil (λ (x : Entry TrapPlace). is_drawable x.seen)
traps_within number (hart ∷ harts) seen within =
    All-append (λ (x : Entry TrapPlace). is_drawable x.seen) (trap_of number hart.status seen)
    (traps_from (number + 1) harts seen) (trap_within number hart.status seen within)
    (traps_within (number + 1) harts seen within)

pub run_within : (run : ℕ) (end : RunEnd) (length : ℕ) (state : MachineState) → run ≤ MAX_RUN
    → IsWithin (of_run run end length state)
unfolding of_run
run_within run end length state within = record {
  cut = cut_within end (seen_once run) within;
  hung = hung_within end (seen_once run) within;
  traps = traps_within 0 state.harts (seen_once run) within;
  ends = ended_within end state (seen_once run) within;
}

pub one_within : (image : ImageParts) (drawing : DrawingParts) (run : ℕ) → run ≤ MAX_RUN
    → IsWithin (one image drawing run)
unfolding one
one_within image drawing run within =
    run_within run (run_end image drawing run) (run_length image drawing run) (last_state image drawing run) within

-- sums of many, from one on
all_within : (image : ImageParts) (drawing : DrawingParts) (numbers : List ℕ) (t : TallyParts) → IsWithin t
    → All (λ n. n ≤ MAX_RUN) numbers → IsWithin (fold add t (map (one image drawing) numbers))
all_within image drawing [] t is all = is
all_within image drawing (n ∷ ns) t is all =
    all_within image drawing ns (add t (one image drawing n))
    (sum_within t (one image drawing n) is
    (one_within image drawing n (All-head (λ (n : ℕ). n ≤ MAX_RUN) n ns all)))
    (All-tail (λ (n : ℕ). n ≤ MAX_RUN) n ns all)

pub tally_within : (image : ImageParts) (drawing : DrawingParts) (numbers : List ℕ) → All (λ n. n ≤ MAX_RUN) numbers
    → IsWithin (tally image drawing numbers)
unfolding tally
tally_within image drawing numbers all = all_within image drawing numbers empty empty_within all

-- ---- numbers

pub numbers_within : (first count : ℕ) → first + count ≤ MAX_RUN + 1 → All (λ n. n ≤ MAX_RUN) (numbers_from first count)
unfolding numbers_from
numbers_within first zero room = All-nil (λ n. n ≤ MAX_RUN)
numbers_within first (suc count) room =
    All-push (λ n. n ≤ MAX_RUN) (numbers_from first count) (first + count)
    (numbers_within first count (omega arith)) (omega arith)
