-- What was written of an explanation or a page, as the ending of a command.
use Rattle.std.proofs.Common.{◌≡◌, ℕ, Bool, true, false, List, refl}
use Rattle.std.specs.Prelude.{if◌then◌else◌, Option, Result, Ok, Err}
use Rattle.std.specs.Io.KnownBytes.{Appends}
use Rattle.sinks.specs.Sinks.{TakesPrefix}
use Rattle.cores.specs.Runs.{Run, Stop}
use Rattle.simulation.specs.declared.faults.SimFault.{SimFault}
use Rattle.simulation.specs.Simulation.{IsRefusedRun, IsRunAnd, is_reported}
use Rattle.printing.specs.Endings.{FailsBy, HasWhole}
use Rattle.program_io.specs.Faults.{sim_fault}
use Rattle.program_io.specs.Runs.{longest_run}
use Rattle.program_io.specs.declared.fault.Fault.TheVariants.{Own}
use Rattle.program_io.proofs.RunLemmas.{answer_is, refused_more, run_more, run_unwritten, run_written}
use Rattle.explain_line.specs.declared.requests.ExplainFormat.TheVariants as forms
use Rattle.explanations.specs.declared.runs.Format.{Format}
use Rattle.explanations.specs.declared.selection.Selection.{Selection}
use Rattle.explanations.specs.ExplainedRuns.{mapped}
use Rattle.explained_page.specs.declared.runs.PageEnd.TheVariants.{Written, TooLong}
use Rattle.explained_page.specs.PagedRuns.{IsPageEnd, is_unpaged, paged}
use Rattle.explain_program.specs.declared.faults.OwnFault.TheVariants as faults
use Rattle.explain_program.specs.Faults.{failure_of, own_failure}
use Rattle.explain_program.specs.Explaining.{Answer, Sources, IsExplained, IsListed, answer_in, answer_of_list, answer_of_run}

-- ---- text and JSON

module _ (format : Format) (sources : Sources) (selection : Selection) (listing order : List ℕ) where
  abbrev answer_of : Result Run SimFault → Answer
  answer_of run = answer_of_list format sources listing selection run

  abbrev text : Run → List ℕ
  text run = mapped format sources listing selection run

  pub listed_written : (stop : Option Stop) (old new : Option (List ℕ))
      → IsRunAnd (longest_run listing order) (λ run. (run.1 ≡ stop) × Appends old new (text run))
      → HasWhole (IsListed format sources listing order selection) stop old new
  listed_written stop old new so =
      run_written own_failure answer_of (λ fault. refl) listing order text old new stop
      (run_more (longest_run listing order) _ _ (λ run p. (refl, p.0, p.1)) so)

  pub listed_unwritten : (refused : SimFault) (old new : Option (List ℕ))
      → IsRefusedRun (longest_run listing order) (λ run. TakesPrefix old new (text run)) refused
      → (is_reported refused ≡ false → new ≡ old)
      → FailsBy (failure_of (sim_fault refused)) (IsListed format sources listing order selection) (sim_fault refused) old new
  listed_unwritten refused old new so same =
      run_unwritten own_failure answer_of (λ fault. refl) listing order text old new refused
      (refused_more (longest_run listing order) _ _ (λ run p. (refl, p)) refused so) same

-- ---- the page

page_by : (too_long : Bool) (text : List ℕ) (stop : Option Stop) → too_long ≡ false
    → ◌≡◌ {A = Answer} (if too_long then Err (Own faults.TooLong) else Ok (text, stop)) (Ok (text, stop))
page_by too_long text stop is = rw is refl

page_is : (sources : Sources) (first last : ℕ) (listing : List ℕ) (run : Run) → is_unpaged first last run ≡ false
    → answer_in forms.Page sources first last listing run ≡ Ok (paged listing first last run, run.1)
page_is sources first last listing run is = page_by (is_unpaged first last run) (paged listing first last run) run.1 is

too_long_by : (too_long : Bool) (text : List ℕ) (stop : Option Stop) → too_long ≡ true
    → ◌≡◌ {A = Answer} (Err (Own faults.TooLong)) (if too_long then Err (Own faults.TooLong) else Ok (text, stop))
too_long_by too_long text stop is = rw is refl

module _ (sources : Sources) (first last : ℕ) (listing order : List ℕ) where
  abbrev PagedSo : Answer → Type 0
  PagedSo answer = IsExplained forms.Page sources first last listing order answer

  abbrev page_answer : Result Run SimFault → Answer
  page_answer run = answer_of_run forms.Page sources first last listing run

  abbrev page : Run → List ℕ
  page run = paged listing first last run

  pub page_written : (stop : Option Stop) (old new : Option (List ℕ))
      → IsRunAnd (longest_run listing order) (λ run. IsPageEnd listing first last run old new (Written stop))
      → HasWhole PagedSo stop old new
  page_written stop old new so =
      run_written own_failure page_answer (λ fault. refl) listing order page old new stop
      (run_more (longest_run listing order) _ _ (λ run p. (page_is sources first last listing run p.0, p.1, p.2)) so)

  by_run : (old new : Option (List ℕ)) (meaning : Result Run SimFault) → longest_run listing order ≡ meaning
      → IsRunAnd meaning (λ run. IsPageEnd listing first last run old new TooLong)
      → FailsBy (failure_of (Own faults.TooLong)) PagedSo (Own faults.TooLong) old new
  by_run old new (Ok run) is so = (
    answer_is own_failure page_answer (λ fault. refl) listing order run (Err (Own faults.TooLong)) is so.0
        (too_long_by (is_unpaged first last run) (page run) run.1 so.1.0),
    so.1.1,
  )
  by_run old new (Err fault) is so = absurd so

  pub page_too_long : (old new : Option (List ℕ))
      → IsRunAnd (longest_run listing order) (λ run. IsPageEnd listing first last run old new TooLong)
      → FailsBy (failure_of (Own faults.TooLong)) PagedSo (Own faults.TooLong) old new
  page_too_long old new so = by_run old new (longest_run listing order) refl so

  pub page_unwritten : (refused : SimFault) (old new : Option (List ℕ))
      → IsRefusedRun (longest_run listing order) (λ run. (is_unpaged first last run ≡ false) × TakesPrefix old new (page run)) refused
      → (is_reported refused ≡ false → new ≡ old) → FailsBy (failure_of (sim_fault refused)) PagedSo (sim_fault refused) old new
  page_unwritten refused old new so same =
      run_unwritten own_failure page_answer (λ fault. refl) listing order page old new refused
      (refused_more (longest_run listing order) _ _ (λ run p. (page_is sources first last listing run p.0, p.1)) refused so) same

pub ruleset prints = (listed_written, listed_unwritten, page_written, page_too_long, page_unwritten)
