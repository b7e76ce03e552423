-- What is told of a listing, and of its run in an order.
use Rattle.std.specs.Prelude.{◌≡◌, ℕ, List, [], Option, Some, None, Result, Ok, Err, IfOk, ◌⊎◌}
use Rattle.cheri_model.specs.runs.Image.{ImageParts}
use Rattle.listings.specs.declared.fault.ListingFault.{ListingFault}
use Rattle.listings.specs.Meaning.{listing_meaning}
use Rattle.cores.specs.declared.cores.TheConstants.{GREATEST_TRACE_LIMIT}
use Rattle.cores.specs.Runs.{IsConfinedRun, Run, Stop}
use Rattle.simulation.specs.declared.faults.SimFault.{SimFault}
use Rattle.simulation.specs.Simulation.{run_of_texts}
use Rattle.cheri_page.specs.declared.fault.Fault.{Fault}
use Rattle.cheri_page.specs.declared.fault.Fault.TheVariants.{Step}
use Rattle.cheri_page.specs.Answers.{Told, IsTold, out_of_memory}
use Rattle.cheri_page.specs.Faults.{listing_fault, sim_fault}

-- of a listing: nothing, or its fault
abbrev pub told_of_meaning : Result ImageParts ListingFault → Told
told_of_meaning (Ok image) = record { text = []; fault = None }
told_of_meaning (Err fault) = record { text = []; fault = Some (listing_fault fault) }

abbrev pub IsCheckTold : List ℕ → Told → Type 0
IsCheckTold listing told = IsTold (told_of_meaning (listing_meaning listing)) told

-- the run of two texts, with the greatest limit of a trace
abbrev pub longest_run : List ℕ → List ℕ → Result Run SimFault
longest_run listing order = run_of_texts listing order GREATEST_TRACE_LIMIT

-- the operation that stopped a run
abbrev pub stop_fault : Option Stop → Option Fault
stop_fault None = None
stop_fault (Some stop) = Some (Step stop.0 stop.1)

-- what a call answers that writes of a run
abbrev pub told_by : Result (Option Stop) SimFault → List ℕ → Told
told_by (Ok end) text = record { text = text; fault = stop_fault end }
told_by (Err fault) text = record { text = []; fault = Some (sim_fault fault) }

-- what is told of a run: its text and the operation that stopped it, or the fault of its texts
abbrev pub told_of_run : (Run → List ℕ) → Result Run SimFault → Told
told_of_run text_of (Ok run) = record { text = text_of run; fault = stop_fault run.1 }
told_of_run text_of (Err fault) = record { text = []; fault = Some (sim_fault fault) }

-- This is told of the run of two texts. What the run leaves is confined to what its image gave.
abbrev pub IsRunTold : (Run → List ℕ) → List ℕ → List ℕ → Told → Type 0
IsRunTold text_of listing order told =
    (told ≡ out_of_memory)
    ⊎ ((told ≡ told_of_run text_of (longest_run listing order))
    × IfOk (longest_run listing order) IsConfinedRun)
