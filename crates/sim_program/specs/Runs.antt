-- The run of a listing in an order, as the program answers it.
use Rattle.std.specs.Prelude.{◌≡◌, ℕ, List, Result, Ok, Err, IfOk}
use Rattle.simulation.specs.declared.faults.SimFault.{SimFault}
use Rattle.cores.specs.Runs.{IsConfinedRun, Run}
use Rattle.simulation.specs.Simulation.{json_of, report_of}
use Rattle.command_line.specs.declared.found.Format.{Format}
use Rattle.command_line.specs.declared.found.Format.TheVariants as forms
use Rattle.sim_program.specs.Endings.{Answer}
use Rattle.program_io.specs.Faults.{sim_fault}
use Rattle.program_io.specs.Runs.{longest_run}

-- the report of a run in a form
unfoldable pub report_in : Format → Run → List ℕ
report_in forms.Text run = report_of run
report_in forms.Json run = json_of run

-- the answer of a run, or of the fault that its texts have
abbrev pub answer_of_run : Format → Result Run SimFault → Answer
answer_of_run form (Ok run) = Ok (report_in form run, run.1)
answer_of_run form (Err fault) = Err (sim_fault fault)

-- this is the answer to a run of two texts; what the run leaves is confined to what its image gave
abbrev pub IsRunAnswer : Format → List ℕ → List ℕ → Answer → Type 0
IsRunAnswer form listing order answer =
    (answer ≡ answer_of_run form (longest_run listing order))
    × IfOk (longest_run listing order) IsConfinedRun
