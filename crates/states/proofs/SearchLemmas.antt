-- What is so of the turns of a search, and of all its states.
use Rattle.std.proofs.Common.{◌≡◌, ◌∙◌, ℕ, ◌<◌, List, sym, subst}
use Rattle.std.specs.Prelude.{Bool, false, IfOk, Option, Some, None, is_some, Result, Ok, Err}
use Rattle.cheri_model.specs.runs.Image.{ImageParts}
use Rattle.cheri_model.specs.runs.Machine.{MachineState}
use Rattle.explore_sights.specs.Sights.{hides, sight_of}
use Rattle.explore_sights.specs.declared.sights.Sight.{Sight}
use Rattle.explore_turns.specs.Turns.{KeepsPassing}
use Rattle.schedules.specs.declared.ranges.SweepRange.{SweepRange}
use Rattle.states.specs.Kept.{KeptParts, count, AreAllKept, IsFirstPassing, IsKeptOf, KeepsNumbers, NonePasses, NonePassesBefore}
use Rattle.states.specs.Searches.{AreTurnsOf, SearchParts}
use Rattle.states.proofs.KeptLemmas.{none_passes}

-- what has the turns of a search
pub turns_in : {X E : Type 0} (search : SearchParts) (sees : Sight) (image_of : X → ImageParts) (sweeps_of : X → List SweepRange)
    (seen_of : X → Sight) (image : ImageParts) (sweeps : List SweepRange) (sight : Sight) (result : Result X E)
    → IfOk result (λ x. image_of x ≡ image) → IfOk result (λ x. sweeps_of x ≡ sweeps) → IfOk result (λ x. seen_of x ≡ sight)
    → AreTurnsOf search sees image sweeps sight → IfOk result (λ x. AreTurnsOf search sees (image_of x) (sweeps_of x) (seen_of x))
turns_in search sees image_of sweeps_of seen_of image sweeps sight (Ok x) image_is sweeps_are sight_is are = record {
  image_is = image_is ∙ are.image_is;
  sweeps_are = sweeps_are ∙ are.sweeps_are;
  sight_is = sight_is ∙ are.sight_is;
}
turns_in search sees image_of sweeps_of seen_of image sweeps sight (Err fault) image_is sweeps_are sight_is are = tt

-- where all states at rest fail a test that steps which a search doesn't see keep, all states of the search fail it
pub none_of_search : (search : SearchParts) (sees : Sight) (kept : KeptParts) (passing : MachineState → Bool) → IsKeptOf search sees kept →
    KeepsPassing (hides (sight_of search.every_step sees)) passing → AreAllKept kept → IsFirstPassing kept passing None →
    NonePasses search.image search.sweeps passing
none_of_search search sees kept passing kept_of keeps all first =
    let seen = subst (λ (x : Sight). KeepsPassing (hides x) passing) (sym kept_of.sight_is) keeps in
    subst (λ (i : ImageParts). NonePasses i search.sweeps passing) kept_of.image_is
    (subst (λ (ss : List SweepRange). NonePasses kept.image ss passing) kept_of.sweeps_are (none_passes kept passing seen all first))

-- of states that keep their numbers none passes that didn't before
pub none_so_far : (before after : KeptParts) (passing : MachineState → Bool) (state : Option ℕ) (number : ℕ) → KeepsNumbers before after →
    IsFirstPassing before passing state → is_some state ≡ false → number ≡ count before → NonePassesBefore after passing number
none_so_far before after passing None number keeps first none is i s below at =
    first i s (sym (keeps i (subst (λ (n : ℕ). i < n) is below)) ∙ at)
none_so_far before after passing (Some k) number keeps first none is i s below at = absurd (cc)
