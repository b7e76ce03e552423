-- What the arguments of a command line of `cheri_explore` ask for.
use Rattle.std.specs.Prelude.{ℕ, ◌≤◌, Bool, true, false, List, length, Option}
use Rattle.std.specs.Prelude.{Some, None, option_and_then, option_map, codes, if◌then◌else◌}
use Rattle.std.specs.Borrow.{Bor}
use Rattle.std.specs.Str.{bytes_eq}
use Rattle.clap.specs.Words.{Row, Text, all_of, fault_of, first_of, subcommand_of}
use Rattle.command_line.specs.Found.{◌>>=◌, form_of, is_given, unless_faulty}
use Rattle.command_line.specs.Numbers.{number_or}
use Rattle.command_line.specs.declared.found.Format.{Format}
use Rattle.command_line.specs.declared.found.Format.TheVariants as forms
use Rattle.explore_line.specs.Commands.{explore_program}
use Rattle.explore_line.specs.Samples.{IsJobs, IsSampleBounded, MergeAsked, SampleAsked, optional_number}
use Rattle.explore_line.specs.Samples.{merge_asked_by, merge_asked_of}
use Rattle.explore_line.specs.Samples.{sample_asked_by, sample_asked_of}
use Rattle.explore_line.specs.Sweeps.{sweeps_in}
use Rattle.explore_sweeps.specs.declared.Sweep.{Sweep}
use Rattle.explore_sweeps.specs.declared.TheConstants.{MAX_SWEEPS}
use Rattle.explore_line.specs.declared.requests.TheConstants.{GREATEST_STATES, USUAL_STATES}
use Rattle.explore_line.specs.declared.samples.TheConstants.{GREATEST_JOBS}
use Rattle.explore_line.specs.declared.requests.Keeping.{Keeping}
use Rattle.explore_line.specs.declared.requests.Question.{Question}
use Rattle.explore_line.specs.declared.requests.Question.TheVariants as questions
use Rattle.explore_line.specs.declared.requests.ExploreRequest.{ExploreRequest}
use Rattle.explore_line.specs.declared.requests.Request.{Request}
use Rattle.explore_line.specs.declared.requests.Request.TheVariants as requests

-- requests by the texts of their arguments
pub data AskedQuestion : Type 0 where
  Outcomes : Option Text → AskedQuestion
  Alike : Option Text → AskedQuestion
  Find : Text → AskedQuestion
  Authority : AskedQuestion
  Check : AskedQuestion

pub record SearchAsked : Type 0 where
  pub listing : Text
  pub map : Option Text
  pub sweeps : List Sweep
  pub states : ℕ
  pub jobs : Option ℕ
  pub every_step : Bool
  pub keeps_registers : Bool
  pub keeps_harts : Bool
  pub form : Format
  pub explained : Bool
  pub question : AskedQuestion

pub data ExploreAsked : Type 0 where
  Search : SearchAsked → ExploreAsked
  Sample : SampleAsked → ExploreAsked
  Merge : MergeAsked → ExploreAsked

abbrev pub question_asked_by : Question → AskedQuestion
question_asked_by (questions.Outcomes show) = Outcomes (option_map (λ items. items.now) show)
question_asked_by (questions.Alike show) = Alike (option_map (λ items. items.now) show)
question_asked_by (questions.Find condition) = Find condition.now
question_asked_by questions.Authority = Authority
question_asked_by questions.Check = Check

abbrev pub name_of : Bor Text → Text
name_of name = name.now

abbrev pub search_asked_by : ExploreRequest → SearchAsked
search_asked_by request = record {
  listing = request.listing.now;
  map = option_map name_of request.map;
  sweeps = request.sweeps.items;
  states = request.states;
  jobs = request.jobs;
  every_step = request.every_step;
  keeps_registers = request.keeps_registers;
  keeps_harts = request.keeps_harts;
  form = request.form;
  explained = request.explained;
  question = question_asked_by request.question;
}

abbrev pub asked_by : Request → ExploreAsked
asked_by (requests.Search request) = Search (search_asked_by request)
asked_by (requests.Sample request) = Sample (sample_asked_by request)
asked_by (requests.Merge request) = Merge (merge_asked_by request)

-- the limits that a request keeps
abbrev pub IsBounded : Request → Type 0
IsBounded (requests.Search request) =
    (length request.sweeps.items ≤ MAX_SWEEPS) × (1 ≤ request.states) × IsJobs request.jobs
IsBounded (requests.Sample request) = IsSampleBounded request
IsBounded (requests.Merge request) = IsJobs request.jobs

-- What is told apart though the question doesn't see it: each list of the words `registers` and
-- `harts`, of which each stands at most once and one at least.
abbrev pub keeping_of : Option Text → Option Keeping
keeping_of None = Some (record { registers = false; harts = false })
keeping_of (Some list) =
    if bytes_eq list (codes "registers") then Some (record { registers = true; harts = false })
    else if bytes_eq list (codes "harts") then Some (record { registers = false; harts = true })
    else if bytes_eq list (codes "registers,harts") then Some (record { registers = true; harts = true })
    else if bytes_eq list (codes "harts,registers") then Some (record { registers = true; harts = true })
    else None

-- what `outcomes` asks
abbrev pub outcomes_question : List Row → AskedQuestion
outcomes_question rows =
    if is_given (first_of (codes "alike") rows) then Alike (first_of (codes "show") rows)
    else Outcomes (first_of (codes "show") rows)

-- what the command of this name asks
unfoldable pub question_of : Text → List Row → Option AskedQuestion
question_of name rows =
    if bytes_eq name (codes "outcomes") then Some (outcomes_question rows)
    else if bytes_eq name (codes "find") then option_map Find (first_of (codes "condition") rows)
    else if bytes_eq name (codes "authority") then Some Authority
    else if bytes_eq name (codes "check") then Some Check
    else None

-- whether orders are explained, which is not asked for in JSON
abbrev pub explained_in : Format → Bool → Option Bool
explained_in forms.Text explained = Some explained
explained_in forms.Json explained = if explained then None else Some false

-- what a search of this name asks for with these arguments
unfoldable pub search_asked_of : Text → List Row → Option SearchAsked
search_asked_of name rows = do
  question ← question_of name rows
  listing ← first_of (codes "listing") rows
  states ← number_or USUAL_STATES 1 GREATEST_STATES (first_of (codes "states") rows)
  jobs ← optional_number 1 GREATEST_JOBS (first_of (codes "jobs") rows)
  keeping ← keeping_of (first_of (codes "keep") rows)
  explained ← explained_in (form_of (first_of (codes "json") rows))
      (is_given (first_of (codes "explain") rows))
  sweeps ← sweeps_in (all_of (codes "sweep") rows)
  Some (record {
    listing = listing;
    map = first_of (codes "map") rows;
    sweeps = sweeps;
    states = states;
    jobs = jobs;
    every_step = is_given (first_of (codes "steps") rows);
    keeps_registers = keeping.registers;
    keeps_harts = keeping.harts;
    form = form_of (first_of (codes "json") rows);
    explained = explained;
    question = question;
  })

-- what the command of this name asks for with these arguments
unfoldable pub explore_asked_of : Text → List Row → Option ExploreAsked
explore_asked_of name rows =
    if bytes_eq name (codes "sample") then option_map Sample (sample_asked_of rows)
    else if bytes_eq name (codes "merge") then option_map Merge (merge_asked_of rows)
    else option_map Search (search_asked_of name rows)

-- what the arguments of a command line ask for, the first of which is the program's name
unfoldable pub explore_asked : List Text → Option ExploreAsked
explore_asked args =
    unless_faulty (fault_of explore_program args)
    (option_and_then (λ found. explore_asked_of found.0 found.1)
    (subcommand_of explore_program args))
