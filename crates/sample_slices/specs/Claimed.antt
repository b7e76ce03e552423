-- What a line claims of its runs: each first run is drawn and run again.
use Rattle.std.specs.Prelude.{◌==◌, ◌+◌, ◌&&◌, ℕ, nat_le, Bool, true, false}
use Rattle.std.specs.Prelude.{if◌then◌else◌, List, [], ◌∷◌, ◌++◌, length, codes, bytes_eq}
use Rattle.std.specs.Prelude.{Option, Some, None, slice_get, is_some, sum_by}
use Rattle.cheri_model.specs.declared.trace.Status.{Status}
use Rattle.cheri_model.specs.declared.trace.Status.TheVariants.{Running, Halted, Trapped}
use Rattle.cheri_model.specs.runs.Image.{ImageParts, opening_memory}
use Rattle.cheri_model.specs.runs.Machine.{MachineState, hart_at}
use Rattle.explore_properties.specs.Properties.{PropertiesParts, PropertyParts}
use Rattle.explore_sweeps.specs.Sweeps.{◌>>=◌}
use Rattle.sample_checks.specs.Checks.{CheckedParts}
use Rattle.sample_checks.specs.Deciding.{deciding_part}
use Rattle.sample_draws.specs.Drawings.{DrawingParts}
use Rattle.sample_draws.specs.Orders.{drawn_order, last_state}
use Rattle.sample_draws.specs.declared.drawing.TheConstants.{MAX_LENGTH, MAX_RUN}
use Rattle.sample_runs.specs.Runs.{run_end}
use Rattle.sample_runs.specs.declared.runner.RunEnd.{RunEnd}
use Rattle.sample_runs.specs.declared.runner.RunEnd.TheVariants as run
use Rattle.sample_tallies.specs.Claims.{claimed as tally_of, with_end, with_trap}
use Rattle.sample_tallies.specs.Sums.{ends_in_order}
use Rattle.sample_tallies.specs.Tables.{Entry}
use Rattle.sample_tallies.specs.Tallies.{TallyParts}
use Rattle.sample_tallies.specs.declared.claims.Claims.{Claims}
use Rattle.sample_tallies.specs.declared.seen.Seen.{Seen}
use Rattle.sample_tallies.specs.declared.seen.TrapPlace.{TrapPlace}
use Rattle.sample_texts.specs.declared.spans.Span.{Span}
use Rattle.serde_json.specs.Data.{Data}
use Rattle.serde_json.specs.Find.{get}
use Rattle.sample_slices.specs.Drawn.{question_in}
use Rattle.sample_slices.specs.Members.{all_steps, list_in, number_in, number_within, text_in}
use Rattle.sample_slices.specs.Numbers.{count_of, has_number, numbers_in}
use Rattle.sample_slices.specs.Slices.{ListingParts, QuestionParts, SliceParts, looked_at, slice_of}

-- what first runs are drawn again by: an image, how orders are drawn, and the numbers of the runs
pub record AgainParts : Type 0 where
  pub image : ImageParts
  pub drawing : DrawingParts
  pub numbers : List Span

-- ---- how many runs, and the first of them

-- at least one, at most all, and the first is among the line's
abbrev pub seen_within : List Span → Seen → Option Seen
seen_within numbers seen =
    if nat_le 1 seen.runs && nat_le seen.runs (count_of numbers) && has_number numbers seen.first
    then Some seen else None

-- so many
unfoldable pub seen_of : List Span → ℕ → Data → Option Seen
seen_of numbers runs value = do
  first ← number_in (codes "first") MAX_RUN value
  seen_within numbers (record { runs = runs; first = first })

unfoldable pub runs_in : Data → Option ℕ
runs_in value = number_in (codes "runs") (MAX_RUN + 1) value

unfoldable pub seen_in : List Span → Data → Option Seen
seen_in numbers value = do
  runs ← runs_in value
  seen_of numbers runs value

-- ---- runs that were cut or hung

abbrev pub same_end : RunEnd → RunEnd → Bool
same_end run.Ended run.Ended = true
same_end run.Hung run.Hung = true
same_end run.Cut run.Cut = true
same_end end other = false

-- the first run ended so
abbrev pub ends_so : AgainParts → RunEnd → Seen → Option (Option Seen)
ends_so again end seen =
    if same_end (run_end again.image again.drawing seen.first) end then Some (Some seen) else None

unfoldable pub ends_of : AgainParts → RunEnd → ℕ → Data → Option (Option Seen)
ends_of again end runs value =
    if runs == 0 then Some None
    else (do
      seen ← seen_of again.numbers runs value
      ends_so again end seen)

unfoldable pub unended_in : AgainParts → RunEnd → List ℕ → Data → Option (Option Seen)
unended_in again end name value = do
  found ← get name value
  runs ← runs_in found
  ends_of again end runs found

-- ---- traps

abbrev pub has_trapped : Status → ℕ → Bool
has_trapped Running cause = false
has_trapped Halted cause = false
has_trapped (Trapped trap) cause = trap.cause == cause

-- the first run leaves it
unfoldable pub leaves_trap : AgainParts → Entry TrapPlace → Bool
leaves_trap again trap =
    has_trapped (hart_at (last_state again.image again.drawing trap.seen.first)
    trap.key.hart).status trap.key.cause

unfoldable pub trap_in : List Span → Data → Option (Entry TrapPlace)
trap_in numbers value = do
  seen ← seen_in numbers value
  hart ← number_in (codes "hart") 255 value
  cause ← number_in (codes "cause") 255 value
  Some (record { key = record { hart = hart; cause = cause }; seen = seen })

unfoldable pub trap_step : AgainParts → Data → TallyParts → Option TallyParts
trap_step again value tally = do
  trap ← trap_in again.numbers value
  if leaves_trap again trap then Some (with_trap tally trap) else None

unfoldable pub with_traps : AgainParts → Data → TallyParts → Option TallyParts
with_traps again value tally = do
  list ← list_in (codes "traps") value
  all_steps (trap_step again) list tally

-- ---- ends

-- the end to which the first run comes
unfoldable pub end_by : AgainParts → Seen → TallyParts → Option TallyParts
end_by again seen tally =
    if same_end (run_end again.image again.drawing seen.first) run.Ended
    then Some (with_end tally (record {
      key = last_state again.image again.drawing seen.first;
      seen = seen;
    }))
    else None

unfoldable pub end_step : AgainParts → Data → TallyParts → Option TallyParts
end_step again value tally = do
  seen ← seen_in again.numbers value
  end_by again seen tally

-- where items are shown, the rows of them
abbrev pub ends_name : Bool → List ℕ
ends_name false = codes "outcomes"
ends_name true = codes "shown"

unfoldable pub with_ends : AgainParts → Bool → Data → TallyParts → Option TallyParts
with_ends again is_shown value tally = do
  list ← list_in (ends_name is_shown) value
  all_steps (end_step again) list tally

-- ---- the tally

unfoldable pub claims_in : AgainParts → Data → Option Claims
claims_in again value = do
  longest ← number_in (codes "longest") MAX_LENGTH value
  cut ← unended_in again run.Cut (codes "cut") value
  hung ← unended_in again run.Hung (codes "hung") value
  Some (record { runs = count_of again.numbers; longest = longest; cut = cut; hung = hung })

abbrev pub runs_of : Option Seen → ℕ
runs_of None = 0
runs_of (Some seen) = seen.runs

abbrev pub runs_in_end : Entry MachineState → ℕ
runs_in_end end = end.seen.runs

-- how many runs ended
unfoldable pub ended : TallyParts → ℕ
ended tally = sum_by runs_in_end (ends_in_order tally)

-- the runs that were cut, or hung, or ended, are all
unfoldable pub adds_up : TallyParts → Bool
adds_up tally = (runs_of tally.cut + runs_of tally.hung + ended tally) == tally.runs

abbrev pub tally_if : TallyParts → Option TallyParts
tally_if tally = if adds_up tally then Some tally else None

unfoldable pub tally_in : AgainParts → Bool → Data → Option TallyParts
tally_in again is_shown value = do
  claims ← claims_in again value
  trapped ← with_traps again value (tally_of claims)
  ended ← with_ends again is_shown value trapped
  tally_if ended

-- ---- properties

abbrev pub runs_or_one : Option Data → Option ℕ
runs_or_one None = Some 1
runs_or_one (Some value) = number_within (MAX_RUN + 1) value

-- runs that decide a property; of one that holds only the first is told
unfoldable pub deciding_in : List Span → Data → Option Seen
deciding_in numbers value = do
  runs ← runs_or_one (get (codes "runs") value)
  seen_of numbers runs value

-- the first run does
unfoldable pub does_decide : AgainParts → PropertyParts → Seen → Bool
does_decide again property seen =
    is_some (deciding_part again.image property.claim
    (drawn_order again.image again.drawing seen.first))

abbrev pub decided_if : AgainParts → PropertyParts → Seen → Option (Option Seen)
decided_if again property seen =
    if does_decide again property seen then Some (Some seen) else None

unfoldable pub decided_of : AgainParts → PropertyParts → List ℕ → Data → Option (Option Seen)
decided_of again property answer value =
    if bytes_eq answer (codes "not seen") then Some None
    else (do
      seen ← deciding_in again.numbers value
      decided_if again property seen)

unfoldable pub decided_step : AgainParts → List PropertyParts → Data → List (Option Seen)
    → Option (List (Option Seen))
decided_step again properties value decided = do
  property ← slice_get properties (length decided)
  answer ← text_in (codes "answer") value
  one ← decided_of again property answer value
  Some (decided ++ one ∷ [])

-- of each property
abbrev pub of_each : List PropertyParts → List (Option Seen) → Option (List (Option Seen))
of_each properties decided =
    if length decided == length properties then Some decided else None

unfoldable pub decided_by : AgainParts → List PropertyParts → Data → Option (List (Option Seen))
decided_by again properties value = do
  list ← list_in (codes "properties") value
  decided ← all_steps (decided_step again properties) list []
  of_each properties decided

unfoldable pub decided_in : AgainParts → Option PropertiesParts → Data
    → Option (List (Option Seen))
decided_in again None value = Some []
decided_in again (Some read) value = decided_by again read.properties value

-- ---- the whole

-- what the runs gave, and what they say of properties
unfoldable pub checked_in : AgainParts → Option PropertiesParts → Bool → Data
    → Option CheckedParts
checked_in again properties is_shown value = do
  tally ← tally_in again is_shown value
  decided ← decided_in again properties value
  Some (record {
    harts = length again.image.harts;
    granules = length (opening_memory again.image.ram again.image.granules);
    sum = tally;
    decided = decided;
  })

-- with what is asked of the runs
unfoldable pub sliced : ListingParts → QuestionParts → List Span → Data → Option SliceParts
sliced listing question numbers value = do
  checked ← checked_in
      (record { image = listing.image; drawing = question.drawing; numbers = numbers })
      (looked_at listing.properties question.is_checked) (is_some question.items) value
  Some (slice_of question numbers checked)

unfoldable pub claimed : ListingParts → Data → Option SliceParts
claimed listing value = do
  question ← question_in listing value
  numbers ← numbers_in value
  sliced listing question numbers value
