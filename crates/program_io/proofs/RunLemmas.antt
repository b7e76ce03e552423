-- What was written of a run, as the ending of a command.
use Rattle.std.proofs.Common.{◌≡◌, ◌∙◌, subst, sym, ap, ℕ, true, false, List, refl, inl, inr}
use Rattle.std.specs.Prelude.{◌⊎◌, IfOk, Option, Result, Ok, Err}
use Rattle.std.specs.Io.KnownBytes.{Appends}
use Rattle.sinks.specs.Sinks.{TakesPrefix}
use Rattle.sinks.specs.declared.fault.WriteFault.{WriteFault}
use Rattle.sinks.specs.declared.fault.WriteFault.TheVariants as written
use Rattle.listings.specs.declared.fault.ListingFault.{ListingFault}
use Rattle.listings.specs.Faults.{no_memory as listing_no_memory}
use Rattle.cores.specs.Runs.{IsConfinedRun, Run, Stop}
use Rattle.simulation.specs.declared.faults.SimFault.{SimFault}
use Rattle.simulation.specs.declared.faults.SimFault.TheVariants as sim
use Rattle.simulation.specs.Simulation.{IsRefusedRun, IsRunAnd, is_reported}
use Rattle.inputs.specs.Faults.{listing_fault, order_fault}
use Rattle.printing.specs.Endings.{Answer, Failure, FailsBy, HasPrefix, HasWhole}
use Rattle.program_io.specs.declared.fault.Fault.{Fault}
use Rattle.program_io.specs.declared.fault.Fault.TheVariants.{Input}
use Rattle.program_io.specs.Faults.{failure_of, sim_fault, written_fault}
use Rattle.program_io.specs.Runs.{longest_run}
use Rattle.program_io.proofs.FaultLemmas.{file_fails, listing_fails}

-- what is so of a run is so of what means it
pub run_more : (meaning : Result Run SimFault) (P Q : Run → Type 0) → ((run : Run) → P run → Q run) → IsRunAnd meaning P → IsRunAnd meaning Q
run_more (Ok run) P Q more so = (so.0, more run so.1)
run_more (Err fault) P Q more so = absurd so

pub refused_more : (meaning : Result Run SimFault) (P Q : Run → Type 0) → ((run : Run) → P run → Q run) → (refused : SimFault)
    → IsRefusedRun meaning P refused → IsRefusedRun meaning Q refused
refused_more meaning P Q more (sim.Listing fault) is = is
refused_more meaning P Q more (sim.Order fault) is = is
refused_more meaning P Q more (sim.Boot fault) is = is
refused_more meaning P Q more (sim.Report fault) is = run_more meaning P Q more is

-- A program's answer to a run of two texts, or to the fault that they have.
module _ {T : Type 0} (own : T → Failure (Option Stop)) (answer_of : Result Run SimFault → Answer (Option Stop) (Fault T))
    (refuses : (fault : SimFault) → answer_of (Err fault) ≡ Err (sim_fault fault)) (listing order : List ℕ) where
  -- the answers to the texts
  abbrev pub Answers : Answer (Option Stop) (Fault T) → Type 0
  Answers answer = (answer ≡ answer_of (longest_run listing order)) × IfOk (longest_run listing order) IsConfinedRun

  pub answer_is : (run : Run) (answer : Answer (Option Stop) (Fault T)) → longest_run listing order ≡ Ok run → IsConfinedRun run
      → answer ≡ answer_of (Ok run) → Answers answer
  answer_is run answer is confined same =
      (same ∙ sym (ap answer_of is), subst (λ (r : Result Run SimFault). IfOk r IsConfinedRun) (sym is) confined)

  refused_is : (fault : SimFault) → longest_run listing order ≡ Err fault → Answers (Err (sim_fault fault))
  refused_is fault is =
      (sym (refuses fault) ∙ sym (ap answer_of is), subst (λ (r : Result Run SimFault). IfOk r IsConfinedRun) (sym is) tt)

  module _ (text_of : Run → List ℕ) (old new : Option (List ℕ)) where
    -- a text answers for a run
    abbrev pub IsText : Run → Type 0
    IsText run = answer_of (Ok run) ≡ Ok (text_of run, run.1)

    whole : (stop : Option Stop) (meaning : Result Run SimFault) → longest_run listing order ≡ meaning
        → IsRunAnd meaning (λ run. IsText run × (run.1 ≡ stop) × Appends old new (text_of run)) → HasWhole Answers stop old new
    whole stop (Ok run) is so =
        (text_of run, answer_is run (Ok (text_of run, stop)) is so.0 (ap shown (sym so.1.1) ∙ sym so.1.0), so.1.2)
      where
        shown : Option Stop → Answer (Option Stop) (Fault T)
        shown end = Ok (text_of run, end)
    whole stop (Err fault) is so = absurd so

    -- it was written whole
    pub run_written : (stop : Option Stop)
        → IsRunAnd (longest_run listing order) (λ run. IsText run × (run.1 ≡ stop) × Appends old new (text_of run)) → HasWhole Answers stop old new
    run_written stop so = whole stop (longest_run listing order) refl so

    begun : (meaning : Result Run SimFault) → longest_run listing order ≡ meaning
        → IsRunAnd meaning (λ run. IsText run × TakesPrefix old new (text_of run)) → HasPrefix Answers old new
    begun (Ok run) is so = (text_of run, run.1, answer_is run (Ok (text_of run, run.1)) is so.0 (sym so.1.0), so.1.1)
    begun (Err fault) is so = absurd so

    unwritten : (fault : WriteFault) → HasPrefix Answers old new
        → FailsBy (failure_of own true (written_fault fault)) Answers (written_fault fault) old new
    unwritten written.Write has = has
    unwritten written.NoMemory has = inr (refl, has)

    meant : (fault : ListingFault) → (fault ≡ listing_no_memory) ⊎ (longest_run listing order ≡ Err (sim.Listing fault))
        → (fault ≡ listing_no_memory) ⊎ Answers (Err (Input (listing_fault fault)))
    meant fault (inl none) = inl none
    meant fault (inr is) = inr (refused_is (sim.Listing fault) is)

    -- a refusal, which wrote nothing unless the writing was begun
    pub run_unwritten : (refused : SimFault)
        → IsRefusedRun (longest_run listing order) (λ run. IsText run × TakesPrefix old new (text_of run)) refused
        → (is_reported refused ≡ false → new ≡ old) → FailsBy (failure_of own true (sim_fault refused)) Answers (sim_fault refused) old new
    run_unwritten (sim.Listing fault) is same = listing_fails own true Answers old new fault (meant fault is) (same refl)
    run_unwritten (sim.Order fault) is same =
        file_fails own true Answers old new (order_fault fault) (refused_is (sim.Order fault) is) (same refl)
    run_unwritten (sim.Boot fault) is same = inl (same refl)
    run_unwritten (sim.Report fault) is same = unwritten fault (begun (longest_run listing order) refl is)
