-- What the arguments of `sample` and `merge` ask for.
use Rattle.std.specs.Prelude.{ℕ, ◌+◌, ◌≤◌, nat_le, Bool, List, length, Option, Some, None, IfSome}
use Rattle.std.specs.Prelude.{option_map, codes, if◌then◌else◌}
use Rattle.std.specs.Borrow.{Bor}
use Rattle.clap.specs.Words.{Row, Text, all_of, first_of}
use Rattle.command_line.specs.Found.{◌>>=◌, form_of, is_given}
use Rattle.command_line.specs.Numbers.{decimal_within, number_or}
use Rattle.command_line.specs.declared.found.Format.{Format}
use Rattle.explore_sweeps.specs.declared.Sweep.{Sweep}
use Rattle.explore_sweeps.specs.declared.TheConstants.{MAX_SWEEPS}
use Rattle.explore_line.specs.Sweeps.{sweeps_in}
use Rattle.explore_line.specs.declared.numbers.TheConstants.{GREATEST_RUN}
use Rattle.explore_line.specs.declared.samples.TheConstants.{GREATEST_DEPTH, GREATEST_JOBS}
use Rattle.explore_line.specs.declared.samples.TheConstants.{GREATEST_LENGTH, GREATEST_ORDERS}
use Rattle.explore_line.specs.declared.samples.TheConstants.{GREATEST_SEED, USUAL_LENGTH}
use Rattle.explore_line.specs.declared.samples.MergeRequest.{MergeRequest}
use Rattle.explore_line.specs.declared.samples.Runs.{Runs}
use Rattle.explore_line.specs.declared.samples.SampleRequest.{SampleRequest}

-- requests by the texts of their arguments
pub record SampleAsked : Type 0 where
  pub listing : Text
  pub orders : ℕ
  pub seed : ℕ
  pub first : ℕ
  pub length : ℕ
  pub depth : Option ℕ
  pub show : Option Text
  pub sweeps : List Sweep
  pub is_checked : Bool
  pub jobs : Option ℕ
  pub form : Format

pub record MergeAsked : Type 0 where
  pub listing : Text
  pub slices : Text
  pub jobs : Option ℕ
  pub form : Format

abbrev pub text_of : Bor Text → Text
text_of text = text.now

abbrev pub sample_asked_by : SampleRequest → SampleAsked
sample_asked_by request = record {
  listing = request.listing.now;
  orders = request.orders;
  seed = request.seed;
  first = request.first;
  length = request.length;
  depth = request.depth;
  show = option_map text_of request.show;
  sweeps = request.sweeps.items;
  is_checked = request.is_checked;
  jobs = request.jobs;
  form = request.form;
}

abbrev pub merge_asked_by : MergeRequest → MergeAsked
merge_asked_by request = record {
  listing = request.listing.now;
  slices = request.slices.now;
  jobs = request.jobs;
  form = request.form;
}

-- the number in such bounds that an option gives, if it is there
abbrev pub optional_number : ℕ → ℕ → Option Text → Option (Option ℕ)
optional_number least greatest None = Some None
optional_number least greatest (Some arg) =
    option_map (λ number. Some number) (decimal_within least greatest arg)

-- how many runs are made, which must be said
abbrev pub orders_of : Option Text → Option ℕ
orders_of arg = arg >>= decimal_within 1 GREATEST_ORDERS

-- the last of them has a number, too
abbrev pub runs_within : ℕ → ℕ → Option Runs
runs_within first orders =
    if nat_le (first + orders) (GREATEST_RUN + 1)
    then Some (record { first = first; orders = orders }) else None

abbrev pub runs_of : List Row → Option Runs
runs_of rows =
    orders_of (first_of (codes "orders") rows) >>= (λ orders.
    number_or 0 0 GREATEST_RUN (first_of (codes "from") rows) >>= (λ first.
    runs_within first orders))

-- what `sample` asks for with these arguments
unfoldable pub sample_asked_of : List Row → Option SampleAsked
sample_asked_of rows = do
  listing ← first_of (codes "listing") rows
  runs ← runs_of rows
  seed ← number_or 0 0 GREATEST_SEED (first_of (codes "seed") rows)
  length ← number_or USUAL_LENGTH 1 GREATEST_LENGTH (first_of (codes "length") rows)
  depth ← optional_number 1 GREATEST_DEPTH (first_of (codes "depth") rows)
  jobs ← optional_number 1 GREATEST_JOBS (first_of (codes "jobs") rows)
  sweeps ← sweeps_in (all_of (codes "sweep") rows)
  Some (record {
    listing = listing;
    orders = runs.orders;
    seed = seed;
    first = runs.first;
    length = length;
    depth = depth;
    show = first_of (codes "show") rows;
    sweeps = sweeps;
    is_checked = is_given (first_of (codes "check") rows);
    jobs = jobs;
    form = form_of (first_of (codes "json") rows);
  })

-- what `merge` asks for
unfoldable pub merge_asked_of : List Row → Option MergeAsked
merge_asked_of rows = do
  listing ← first_of (codes "listing") rows
  slices ← first_of (codes "slices") rows
  jobs ← optional_number 1 GREATEST_JOBS (first_of (codes "jobs") rows)
  Some (record {
    listing = listing;
    slices = slices;
    jobs = jobs;
    form = form_of (first_of (codes "json") rows);
  })

-- ---- the limits that a request keeps

abbrev pub IsDepth : Option ℕ → Type 0
IsDepth depth = IfSome depth (λ d. (1 ≤ d) × (d ≤ GREATEST_DEPTH))

abbrev pub IsJobs : Option ℕ → Type 0
IsJobs jobs = IfSome jobs (λ j. (1 ≤ j) × (j ≤ GREATEST_JOBS))

pub record IsSampleBounded (request : SampleRequest) : Type 0 where
  pub some_orders : 1 ≤ request.orders
  pub few_orders : request.orders ≤ GREATEST_ORDERS
  pub numbers : request.first + request.orders ≤ GREATEST_RUN + 1
  pub few_seeds : request.seed ≤ GREATEST_SEED
  pub some_length : 1 ≤ request.length
  pub few_operations : request.length ≤ GREATEST_LENGTH
  pub is_depth : IsDepth request.depth
  pub few_sweeps : length request.sweeps.items ≤ MAX_SWEEPS
  pub are_jobs : IsJobs request.jobs
