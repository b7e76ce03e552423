-- The run of two texts, as a program runs it.
use Rattle.std.specs.Prelude.{ℕ, List, Result}
use Rattle.cores.specs.declared.cores.TheConstants.{GREATEST_TRACE_LIMIT}
use Rattle.cores.specs.Runs.{Run}
use Rattle.simulation.specs.declared.faults.SimFault.{SimFault}
use Rattle.simulation.specs.Simulation.{run_of_texts}

-- with the greatest limit of a trace
abbrev pub longest_run : List ℕ → List ℕ → Result Run SimFault
longest_run listing order = run_of_texts listing order GREATEST_TRACE_LIMIT
