-- What many runs gave, counted.
use Rattle.std.specs.Prelude.{ℕ, ◌+◌, max, zero, suc, List, [], ◌∷◌, ◌++◌, fold}
use Rattle.std.specs.Prelude.{map, Option, Some, None}
use Rattle.cheri_model.specs.declared.trace.Status.{Status}
use Rattle.cheri_model.specs.declared.trace.Status.TheVariants.{Running, Halted, Trapped}
use Rattle.cheri_model.specs.steps.Hart.{HartState}
use Rattle.cheri_model.specs.runs.Image.{ImageParts}
use Rattle.cheri_model.specs.runs.Machine.{MachineState}
use Rattle.sample_draws.specs.Drawings.{DrawingParts}
use Rattle.sample_draws.specs.Orders.{last_state}
use Rattle.sample_runs.specs.declared.runner.RunEnd.{RunEnd}
use Rattle.sample_runs.specs.declared.runner.RunEnd.TheVariants.{Ended, Hung, Cut}
use Rattle.sample_runs.specs.Runs.{run_end, run_length}
use Rattle.sample_tallies.specs.declared.seen.Seen.{Seen}
use Rattle.sample_tallies.specs.declared.seen.TrapPlace.{TrapPlace}
use Rattle.sample_tallies.specs.Tables.{Entry, seen_once, either, with_entries}
use Rattle.sample_tallies.specs.SameStates.{same_state, same_place}

-- How many runs; the length of the longest; those that were cut, and those that hung; the traps of
-- all harts, each of its hart and cause; and the states in which runs ended.
pub record TallyParts : Type 0 where
  pub runs : ℕ
  pub longest : ℕ
  pub cut : Option Seen
  pub hung : Option Seen
  pub traps : List (Entry TrapPlace)
  pub ends : List (Entry MachineState)

-- of no run
abbrev pub empty : TallyParts
empty = record { runs = 0; longest = 0; cut = None; hung = None; traps = []; ends = [] }

-- of these runs and of those
unfoldable pub add : TallyParts → TallyParts → TallyParts
add a b = record {
  runs = a.runs + b.runs;
  longest = max a.longest b.longest;
  cut = either a.cut b.cut;
  hung = either a.hung b.hung;
  traps = with_entries same_place a.traps b.traps;
  ends = with_entries same_state a.ends b.ends;
}

-- what is seen where a run ends so
abbrev pub cut_by : RunEnd → Seen → Option Seen
cut_by Ended seen = None
cut_by Hung seen = None
cut_by Cut seen = Some seen

abbrev pub hung_by : RunEnd → Seen → Option Seen
hung_by Ended seen = None
hung_by Hung seen = Some seen
hung_by Cut seen = None

abbrev pub ended_by : RunEnd → MachineState → Seen → List (Entry MachineState)
ended_by Ended state seen = record { key = state; seen = seen } ∷ []
ended_by Hung state seen = []
ended_by Cut state seen = []

-- the trap of a hart of this number
abbrev pub trap_of : ℕ → Status → Seen → List (Entry TrapPlace)
trap_of hart Running seen = []
trap_of hart Halted seen = []
trap_of hart (Trapped trap) seen =
    record { key = record { hart = hart; cause = trap.cause }; seen = seen } ∷ []

-- the traps of harts, the first of which has this number
unfoldable pub traps_from : ℕ → List HartState → Seen → List (Entry TrapPlace)
traps_from number [] seen = []
traps_from number (hart ∷ harts) seen =
    trap_of number hart.status seen ++ traps_from (number + 1) harts seen

-- of one run, which ended so, after so many operations, in this state
unfoldable pub of_run : ℕ → RunEnd → ℕ → MachineState → TallyParts
of_run run end length state = record {
  runs = 1;
  longest = length;
  cut = cut_by end (seen_once run);
  hung = hung_by end (seen_once run);
  traps = traps_from 0 state.harts (seen_once run);
  ends = ended_by end state (seen_once run);
}

-- of the run with this number
unfoldable pub one : ImageParts → DrawingParts → ℕ → TallyParts
one image drawing run =
    of_run run (run_end image drawing run) (run_length image drawing run)
    (last_state image drawing run)

-- of the runs with these numbers
unfoldable pub tally : ImageParts → DrawingParts → List ℕ → TallyParts
tally image drawing numbers = fold add empty (map (one image drawing) numbers)

-- so many numbers, from this one on
unfoldable pub numbers_from : ℕ → ℕ → List ℕ
numbers_from first zero = []
numbers_from first (suc count) = numbers_from first count ++ (first + count) ∷ []
