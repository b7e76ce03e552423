-- The explanation of a listing in an order, as the program answers it.
use Rattle.std.specs.Prelude.{◌≡◌, ℕ, if◌then◌else◌, List, Option, Result, Ok, Err, IfOk}
use Rattle.cores.specs.Runs.{IsConfinedRun, Run, Stop}
use Rattle.simulation.specs.declared.faults.SimFault.{SimFault}
use Rattle.printing.specs.Endings as endings
use Rattle.explain_line.specs.declared.requests.Filter.{Filter}
use Rattle.explain_line.specs.declared.requests.Filter.TheVariants as words
use Rattle.explain_line.specs.declared.requests.ExplainFormat.{ExplainFormat}
use Rattle.explain_line.specs.declared.requests.ExplainFormat.TheVariants.{Text, Json, Page}
use Rattle.explanations.specs.declared.runs.Format.{Format}
use Rattle.explanations.specs.declared.runs.Format.TheVariants as format
use Rattle.explanations.specs.declared.selection.Filter.{Filter as Shown}
use Rattle.explanations.specs.declared.selection.Filter.TheVariants as shown
use Rattle.explanations.specs.declared.selection.Selection.{Selection}
use Rattle.explanations.specs.ExplainedRuns.{mapped}
use Rattle.explained_page.specs.PagedRuns.{is_unpaged, paged}
use Rattle.program_io.specs.Faults.{sim_fault}
use Rattle.program_io.specs.Runs.{longest_run}
use Rattle.program_io.specs.declared.fault.Fault.TheVariants.{Own}
use Rattle.explain_program.specs.declared.faults.OwnFault.TheVariants.{TooLong}
use Rattle.explain_program.specs.Faults.{Fault}

abbrev pub Answer : Type 0
Answer = endings.Answer (Option Stop) Fault

-- the events that `--only` shows
abbrev pub shown_by : Filter → Shown
shown_by words.All = shown.All
shown_by words.Traps = shown.Traps
shown_by words.Clears = shown.Clears
shown_by words.TrapsOrClears = shown.TrapsOrClears

abbrev pub selection_of : ℕ → ℕ → Filter → Selection
selection_of first last filter =
    record { first = first; last = last; filter = shown_by filter }

-- what a map says that instructions come from, if there is one
abbrev pub Sources : Type 0
Sources = Option (List (List ℕ))

-- the answer of a run in a form: its events from `first` to `last`; a page knows no map
abbrev pub answer_in : ExplainFormat → Sources → ℕ → ℕ → List ℕ → Run → Answer
answer_in (Text filter) sources first last listing run =
    Ok (mapped format.Text sources listing (selection_of first last filter) run, run.1)
answer_in (Json filter) sources first last listing run =
    Ok (mapped format.Json sources listing (selection_of first last filter) run, run.1)
answer_in Page sources first last listing run =
    if is_unpaged first last run then Err (Own TooLong) else Ok (paged listing first last run, run.1)

-- the answer of a run, or of the fault that its texts have
abbrev pub answer_of_run : ExplainFormat → Sources → ℕ → ℕ → List ℕ → Result Run SimFault → Answer
answer_of_run form sources first last listing (Ok run) =
    answer_in form sources first last listing run
answer_of_run form sources first last listing (Err fault) = Err (sim_fault fault)

-- the answer of a run as text or JSON
abbrev pub answer_of_list : Format → Sources → List ℕ → Selection → Result Run SimFault → Answer
answer_of_list format sources listing selection (Ok run) =
    Ok (mapped format sources listing selection run, run.1)
answer_of_list format sources listing selection (Err fault) = Err (sim_fault fault)

-- This is the answer for two texts: the explanation of their run, whose values are confined to what
-- its image gave.
abbrev pub IsExplained : ExplainFormat → Sources → ℕ → ℕ → List ℕ → List ℕ → Answer → Type 0
IsExplained form sources first last listing order answer =
    (answer ≡ answer_of_run form sources first last listing (longest_run listing order))
    × IfOk (longest_run listing order) IsConfinedRun

-- the same of text and JSON, of the events of a selection
abbrev pub IsListed : Format → Sources → List ℕ → List ℕ → Selection → Answer → Type 0
IsListed format sources listing order selection answer =
    (answer ≡ answer_of_list format sources listing selection (longest_run listing order))
    × IfOk (longest_run listing order) IsConfinedRun
