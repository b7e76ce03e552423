-- The run of a listing in an order, from two texts to what a sink took.
use Rattle.std.specs.Prelude.{◌≡◌, ℕ, List, Option, Result, Ok, Err, IsOk, IsOkAnd, ◌⊎◌}
use Rattle.std.specs.Prelude.{Bool, true, false, if◌then◌else◌}
use Rattle.std.specs.Io.KnownBytes.{Appends}
use Rattle.listings.specs.declared.fault.ListingFault.{ListingFault}
use Rattle.listings.specs.Faults.{no_memory}
use Rattle.listings.specs.Meaning.{listing_meaning}
use Rattle.orders.specs.declared.fault.OrderFault.{OrderFault}
use Rattle.orders.specs.Orders.{order_of}
use Rattle.cheri_model.specs.declared.operation.Op.{Op}
use Rattle.cheri_model.specs.runs.Image.{ImageParts}
use Rattle.report_lines.specs.Texts.{line}
use Rattle.reports.specs.Json.{json_report}
use Rattle.reports.specs.Report.{report}
use Rattle.serde_json.specs.Written.{compact_text}
use Rattle.sinks.specs.Sinks.{TakesPrefix}
use Rattle.sinks.specs.WriteFaults.{failures_of}
use Rattle.cores.specs.declared.faults.BootFault.{BootFault}
use Rattle.cores.specs.declared.faults.BootFault.TheVariants as boot
use Rattle.simulation.specs.declared.faults.SimFault.{SimFault}
use Rattle.simulation.specs.declared.faults.SimFault.TheVariants.{Listing, Order, Boot, Report}
use Rattle.cores.specs.Cores.{is_limit}
use Rattle.cores.specs.Cores.{CoreParts}
use Rattle.cores.specs.Runs.{IsConfinedRun, Run, Stop, run_of}

-- the run that two texts mean; where there is none, the listing's fault, else the order's, else the
-- limit's
unfoldable pub run_meant : Result ImageParts ListingFault → Result (List Op) OrderFault → ℕ
    → Result Run SimFault
run_meant (Err fault) order limit = Err (Listing fault)
run_meant (Ok image) (Err fault) limit = Err (Order fault)
run_meant (Ok image) (Ok operations) limit =
    if is_limit limit then Ok (run_of image operations limit) else Err (Boot boot.Limit)

abbrev pub run_of_texts : List ℕ → List ℕ → ℕ → Result Run SimFault
run_of_texts listing order limit = run_meant (listing_meaning listing) (order_of order) limit

-- the report of what a core took, and of a run
abbrev pub core_report : CoreParts → List ℕ
core_report core = report core.image core.trace core.state

abbrev pub report_of : Run → List ℕ
report_of run = core_report run.0

-- the JSON report of what a core took, in one line, and of a run
abbrev pub core_json : CoreParts → List ℕ
core_json core = line (compact_text (json_report core.image core.trace core.state))

abbrev pub json_of : Run → List ℕ
json_of run = core_json run.0

-- a machine is not booted for its limit, or with a good one when out of memory
abbrev pub IsUnbooted : BootFault → Result Run SimFault → Type 0
IsUnbooted boot.Limit run = run ≡ Err (Boot boot.Limit)
IsUnbooted boot.NoMemory run = IsOk run

-- there is a run, which is confined, and this is so of it
abbrev pub IsRunAnd : Result Run SimFault → (Run → Type 0) → Type 0
IsRunAnd run IsSo = IsOkAnd run (λ r. IsConfinedRun r × IsSo r)

-- Each fault of a simulation: when it holds. Running out of memory says nothing of the listing; the
-- order is judged without memory, and a machine is booted after that. Of the run this is so where
-- its report was not written whole.
abbrev pub IsRefusedRun : Result Run SimFault → (Run → Type 0) → SimFault → Type 0
IsRefusedRun run IsSo (Listing fault) = (fault ≡ no_memory) ⊎ (run ≡ Err (Listing fault))
IsRefusedRun run IsSo (Order fault) = run ≡ Err (Order fault)
IsRefusedRun run IsSo (Boot fault) = IsUnbooted fault run
IsRefusedRun run IsSo (Report fault) = IsRunAnd run IsSo

-- the same before any report is begun
abbrev pub IsUnrun : Result Run SimFault → SimFault → Type 0
IsUnrun run fault = IsRefusedRun run (λ _. ⊥) fault

-- The run ended here, and the sink took just its text.
abbrev pub IsRunWritten : Result Run SimFault → (Run → List ℕ) → Option (List ℕ)
    → Option (List ℕ) → Option Stop → Type 0
IsRunWritten run text old new end =
    IsRunAnd run (λ r. (r.1 ≡ end) × Appends old new (text r))

-- A fault of a run that was to be written: when it holds. After one of the writing the sink took a
-- prefix of the text.
abbrev pub IsRunUnwritten : Result Run SimFault → (Run → List ℕ) → Option (List ℕ)
    → Option (List ℕ) → SimFault → Type 0
IsRunUnwritten run text old new fault =
    IsRefusedRun run (λ r. TakesPrefix old new (text r)) fault

-- whether a run was refused after its report was begun
abbrev pub is_reported : SimFault → Bool
is_reported (Report fault) = true
is_reported _ = false

-- how often the sink failed by an answer
abbrev pub failures_of_run : {X : Type 0} → Result X SimFault → ℕ
failures_of_run (Err (Report fault)) = failures_of (Err fault)
failures_of_run _ = 0

abbrev pub sim_fault_number : SimFault → ℕ
sim_fault_number (Listing fault) = 1
sim_fault_number (Order fault) = 2
sim_fault_number (Boot fault) = 3
sim_fault_number (Report fault) = 4
