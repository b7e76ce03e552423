-- What was written of a run, as the answer to `run`.
use Rattle.std.proofs.Common.{◌≡◌, subst, sym, ℕ, List, Option, refl, false, true}
use Rattle.std.specs.Prelude.{None, Some, Result}
use Rattle.std.specs.Io.KnownBytes.{Appends}
use Rattle.sinks.specs.Sinks.{TakesPrefix}
use Rattle.cores.specs.Runs.{Run, Stop}
use Rattle.simulation.specs.declared.faults.SimFault.{SimFault}
use Rattle.simulation.specs.Simulation.{IsRefusedRun, IsRunAnd, is_reported}
use Rattle.command_line.specs.declared.found.Format.{Format}
use Rattle.printing.specs.Endings.{HasWhole}
use Rattle.program_io.specs.Faults.{sim_fault}
use Rattle.program_io.specs.Runs.{longest_run}
use Rattle.program_io.proofs.RunLemmas.{refused_more, run_more, run_unwritten, run_written}
use Rattle.sim_program.specs.Endings.{Answer, Fails, IsRunEnd, ended_at, stop_of}
use Rattle.sim_program.specs.Faults.{own_failure}
use Rattle.sim_program.specs.Runs.{IsRunAnswer, answer_of_run, report_in}

-- a run ends where it stopped
stop_at : (stop : Option Stop) → stop_of (ended_at stop) ≡ stop
stop_at None = refl
stop_at (Some stop) = refl

pub end_at : (stop : Option Stop) → IsRunEnd (ended_at stop)
end_at None = tt
end_at (Some stop) = tt

module _ (form : Format) (listing order : List ℕ) where
  abbrev answer_of : Result Run SimFault → Answer
  answer_of run = answer_of_run form run

  -- its report was written
  pub report_written : (stop : Option Stop) (old new : Option (List ℕ))
      → IsRunAnd (longest_run listing order) (λ run. (run.1 ≡ stop) × Appends old new (report_in form run))
      → HasWhole (IsRunAnswer form listing order) (stop_of (ended_at stop)) old new
  report_written stop old new so =
      subst (λ (s : Option Stop). HasWhole (IsRunAnswer form listing order) s old new) (sym (stop_at stop))
      (run_written own_failure answer_of (λ fault. refl) listing order (report_in form) old new stop
      (run_more (longest_run listing order) _ _ (λ run p. (refl, p.0, p.1)) so))

  -- or was not
  pub report_unwritten : (refused : SimFault) (old new : Option (List ℕ))
      → IsRefusedRun (longest_run listing order) (λ run. TakesPrefix old new (report_in form run)) refused
      → (is_reported refused ≡ false → new ≡ old) → Fails (IsRunAnswer form listing order) true (sim_fault refused) old new
  report_unwritten refused old new so same =
      run_unwritten own_failure answer_of (λ fault. refl) listing order (report_in form) old new refused
      (refused_more (longest_run listing order) _ _ (λ run p. (refl, p)) refused so) same

pub ruleset runs = (end_at, report_written, report_unwritten)
