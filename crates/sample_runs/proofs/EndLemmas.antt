-- A run that is said to be hung is.
use Rattle.std.proofs.Common.{◌≡◌, ℕ, Bool, true, false, cond, List, refl, sym, ap, subst}
use Rattle.std.proofs.lemmas.Bool.{false≢true}
use Rattle.cap_model.specs.values.CapValue.{CapValue}
use Rattle.cheri_model.specs.runs.Image.{ImageParts}
use Rattle.cheri_model.specs.runs.Machine.{MachineState, opening_state}
use Rattle.cheri_model.specs.runs.Replay.{replayed_state}
use Rattle.cheri_model.specs.runs.Authority.{EachOfState, IsLawfulState, IsGrantedValue, values_of_image}
use Rattle.cheri_model.proofs.Runs.Granted.{IsGood}
use Rattle.cheri_model.proofs.Runs.RunsConfined.{run_lawful}
use Rattle.sample_draws.specs.Drawings.{DrawingParts}
use Rattle.sample_draws.specs.Orders.{first_moment, is_over, drawn_run, drawn_order, last_state}
use Rattle.sample_draws.proofs.OrderLemmas.{run_leads}
use Rattle.sample_steps.specs.Hangs.{is_hung, all_stay}
use Rattle.sample_runs.specs.declared.runner.RunEnd.{RunEnd}
use Rattle.sample_runs.specs.declared.runner.RunEnd.TheVariants.{Ended, Hung, Cut}
use Rattle.sample_runs.specs.Runs.{end_in, StaysHung}
use Rattle.sample_runs.proofs.HungLemmas.{stays_hung}

is_said_hung : RunEnd → Bool
is_said_hung Ended = false
is_said_hung Hung = true
is_said_hung Cut = false

said_hung : (over stay : Bool) → cond over Ended (cond stay Hung Cut) ≡ Hung → stay ≡ true
unfolding is_said_hung
said_hung true true is = refl
said_hung true false is = absurd (false≢true (ap is_said_hung is))
said_hung false true is = refl
said_hung false false is = absurd (false≢true (ap is_said_hung is))

hung_stay : (image : ImageParts) (state : MachineState) → end_in image state ≡ Hung
    → all_stay image.program state.memory state.harts ≡ true
unfolding end_in is_hung
hung_stay image state is = said_hung (is_over state) (all_stay image.program state.memory state.harts) is

-- the two halves of what is kept, together
good_of : (sources : List CapValue) (state : MachineState) → IsLawfulState state
    → EachOfState (IsGrantedValue sources) state → EachOfState (IsGood sources) state
good_of sources state lawful granted = record {
  harts = λ k d inside. record {
    pcc = record { lawful = (lawful.harts k d inside).pcc; granted = (granted.harts k d inside).pcc };
    regs = λ n v within. record { lawful = (lawful.harts k d inside).regs n v within; granted = (granted.harts k d inside).regs n v within };
  };
  memory = λ k v inside. record { lawful = lawful.memory k v inside; granted = granted.memory k v inside };
}

leads : (image : ImageParts) (drawing : DrawingParts) (run : ℕ)
    → last_state image drawing run ≡ replayed_state image (drawn_order image drawing run)
unfolding drawn_run replayed_state
leads image drawing run = run_leads image drawing drawing.length (first_moment image drawing run)

-- what a run leaves is lawful, and granted by the image
last_good : (image : ImageParts) (drawing : DrawingParts) (run : ℕ) → IsLawfulState (opening_state image)
    → EachOfState (IsGood (values_of_image image)) (last_state image drawing run)
last_good image drawing run lawful =
    let order = drawn_order image drawing run in
    let both = run_lawful image order lawful in
    subst (EachOfState (IsGood (values_of_image image))) (sym (leads image drawing run))
    (good_of (values_of_image image) (replayed_state image order) both.0 both.1)

pub end_hung : (image : ImageParts) (drawing : DrawingParts) (run : ℕ) → IsLawfulState (opening_state image)
    → end_in image (last_state image drawing run) ≡ Hung → StaysHung image (last_state image drawing run)
end_hung image drawing run lawful is =
    stays_hung image (values_of_image image) (last_state image drawing run) (last_good image drawing run lawful)
    (hung_stay image (last_state image drawing run) is)
