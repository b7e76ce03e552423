-- What is told of a run, from what was written of it and how that ended.
use Rattle.std.proofs.Common.{◌≡◌, ◌∙◌, sym, ap, subst, ℕ, List, [], Option, Result, inl, inr}
use Rattle.std.specs.Prelude.{Some, Ok, Err, IfOk, IfErr, ◌⊎◌}
use Rattle.std.specs.Io.KnownBytes.{Appends}
use Rattle.sinks.specs.Sinks.{Memory}
use Rattle.cores.specs.Runs.{IsConfinedRun, Run, Stop}
use Rattle.listings.specs.declared.fault.ListingFault.{ListingFault}
use Rattle.simulation.specs.declared.faults.SimFault.{SimFault}
use Rattle.simulation.specs.declared.faults.SimFault.TheVariants as sim
use Rattle.simulation.specs.Simulation.{IsRefusedRun, IsRunAnd}
use Rattle.cheri_page.specs.declared.answer.Answer.{Answer}
use Rattle.cheri_page.specs.Answers.{Told, Answers, IsTold, out_of_memory}
use Rattle.cheri_page.specs.Runs.{IsRunTold, longest_run, told_by, told_of_run}

-- what was told says more

pub says_more : (Is IsMore : Told → Type 0) (old new : List ℕ) (answer : Answer) → ((told : Told) → Is told → IsMore told) →
    Answers Is old new answer → Answers IsMore old new answer
says_more Is IsMore old new answer more said =
    record { told = said.told; is_so = more said.told said.is_so; out = said.out; said = said.said }

-- a text of a run
text_told : (text_of : Run → List ℕ) (end : Option Stop) (taken : List ℕ) (meant : Result Run SimFault) →
    IsRunAnd meant (λ run. (run.1 ≡ end) × Appends (Some []) (Some taken) (text_of run)) →
    (told_by (Ok end) taken ≡ told_of_run text_of meant) × IfOk meant IsConfinedRun
text_told text_of end taken (Ok run) shown =
    (ap (told_by (Ok end)) shown.1.1 ∙ ap (λ (e : Option Stop). told_by (Ok e) (text_of run)) (sym shown.1.0), shown.0)
text_told text_of end taken (Err fault) shown = absurd shown

told_same : (meant other told : Told) → meant ≡ other → IsTold meant told → (told ≡ out_of_memory) ⊎ (told ≡ other)
told_same meant other told same (inl none) = inl none
told_same meant other told same (inr is) = inr (is ∙ same)

with_confined : (told : Told) (other : Told) (Confined : Type 0) → Confined → (told ≡ out_of_memory) ⊎ (told ≡ other) →
    (told ≡ out_of_memory) ⊎ ((told ≡ other) × Confined)
with_confined told other Confined is (inl none) = inl none
with_confined told other Confined is (inr same) = inr (same, is)

-- a run that was shown
pub run_shown : (text_of : Run → List ℕ) (listing order taken : List ℕ) (end : Option Stop) (told : Told) →
    IsRunAnd (longest_run listing order) (λ run. (run.1 ≡ end) × Appends (Some []) (Some taken) (text_of run)) →
    IsTold (told_by (Ok end) taken) told → IsRunTold text_of listing order told
run_shown text_of listing order taken end told shown is =
    let so = text_told text_of end taken (longest_run listing order) shown in
    with_confined told _ _ so.1 (told_same _ _ told so.0 is)

-- one that was refused
refusal_told : (text_of : Run → List ℕ) (IsSo : Run → Type 0) (meant : Result Run SimFault) (fault : SimFault) (taken : List ℕ) (told : Told) →
    IsRefusedRun meant IsSo fault → IsTold (told_by (Err fault) taken) told →
    (told ≡ out_of_memory) ⊎ ((told ≡ told_of_run text_of meant) × IfOk meant IsConfinedRun)
refusal_told text_of IsSo meant fault taken told refused (inl none) = inl none
refusal_told text_of IsSo meant (sim.Listing fault) taken told (inl none) (inr is) =
    inl (is ∙ ap (λ (f : ListingFault). told_by (Err (sim.Listing f)) taken) none)
refusal_told text_of IsSo meant (sim.Listing fault) taken told (inr means) (inr is) =
    inr (is ∙ sym (ap (told_of_run text_of) means), subst (λ (r : Result Run SimFault). IfOk r IsConfinedRun) (sym means) tt)
refusal_told text_of IsSo meant (sim.Order fault) taken told means (inr is) =
    inr (is ∙ sym (ap (told_of_run text_of) means), subst (λ (r : Result Run SimFault). IfOk r IsConfinedRun) (sym means) tt)
refusal_told text_of IsSo meant (sim.Boot fault) taken told refused (inr is) = inl is
refusal_told text_of IsSo meant (sim.Report fault) taken told refused (inr is) = inl is

pub run_refused : (text_of : Run → List ℕ) (IsSo : Run → Type 0) (listing order taken : List ℕ) (fault : SimFault) (told : Told) →
    IsRefusedRun (longest_run listing order) IsSo fault → IsTold (told_by (Err fault) taken) told → IsRunTold text_of listing order told
run_refused text_of IsSo listing order taken fault told refused is =
    refusal_told text_of IsSo (longest_run listing order) fault taken told refused is

-- what was written of a run to a sink that was empty, and how that ended
pub run_told : (text_of : Run → List ℕ) (IsSo : Run → Type 0) (listing order : List ℕ) (ran : Result (Option Stop) SimFault) (before after : Memory) (bytes : List ℕ)
    (old new : List ℕ) (answer : Answer) → before.bytes ≡ [] → bytes ≡ after.bytes →
    IfOk ran (λ end. IsRunAnd (longest_run listing order) (λ run. (run.1 ≡ end) × Appends (Some before.bytes) (Some after.bytes) (text_of run))) →
    IfErr ran (λ fault. IsRefusedRun (longest_run listing order) IsSo fault) →
    Answers (IsTold (told_by ran bytes)) old new answer → Answers (IsRunTold text_of listing order) old new answer
run_told text_of IsSo listing order (Ok end) before after bytes old new answer empty taken shown refused said =
    says_more _ _ old new answer
    (λ told is. run_shown text_of listing order bytes end told
    (subst (λ (b : List ℕ). IsRunAnd (longest_run listing order) (λ run. (run.1 ≡ end) × Appends (Some []) (Some b) (text_of run))) (sym taken)
    (subst (λ (b : List ℕ). IsRunAnd (longest_run listing order) (λ run. (run.1 ≡ end) × Appends (Some b) (Some after.bytes) (text_of run))) empty shown)) is)
    said
run_told text_of IsSo listing order (Err fault) before after bytes old new answer empty taken shown refused said =
    says_more _ _ old new answer (λ told is. run_refused text_of IsSo listing order bytes fault told refused is) said
