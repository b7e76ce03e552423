-- A machine in its opening state.
use Rattle.std.proofs.Common.{◌≡◌, ℕ, ◌≤◌, true, List, length, map, sym, ap, ◌∙◌, subst, arith}
use Rattle.std.proofs.lemmas.Bool.Decides.{nat_tests}
use Rattle.std.proofs.lemmas.List.{length-map}
use Rattle.cap_model.specs.values.CapValue.{CapValue}
use Rattle.cheri_model.specs.declared.image.TheConstants.{MAX_HARTS}
use Rattle.cheri_model.specs.steps.Hart.{HartState}
use Rattle.cheri_model.specs.runs.Image.{ImageParts, opening_hart, opening_memory}
use Rattle.cheri_model.specs.runs.ImageRules.{is_image}
use Rattle.cheri_model.specs.runs.Machine.{MachineState, opening_state}
use Rattle.cheri_model.specs.runs.Authority.{IsLawfulState}
use Rattle.sample_draws.specs.Drawings.{DrawingParts}
use Rattle.sample_draws.specs.Draws.{DrawParts, draws_of_run}
use Rattle.sample_draws.specs.Orders.{Moment, first_moment}
use Rattle.sample_runs.specs.Memories.{MemoryParts}
use Rattle.sample_runs.specs.Runners.{IsRunner}

pub record FewHarts (image : ImageParts) : Type 0 where
  pub some : 1 ≤ length image.harts
  pub few : length image.harts ≤ MAX_HARTS

pub harts_are_few : (image : ImageParts) → is_image image ≡ true → FewHarts image
unfolding is_image
harts_are_few image is = record { some = grind (arith, nat_tests); few = grind (arith, nat_tests) }

pub moment_first : (image : ImageParts) (drawing : DrawingParts) (run count : ℕ) (harts : List HartState)
    (memory : List CapValue) (draws : DrawParts) → harts ≡ map opening_hart image.harts
    → memory ≡ opening_memory image.ram image.granules → draws ≡ draws_of_run drawing count run
    → count ≡ length image.harts
    → ◌≡◌ {A = Moment} (record { draws = draws; state = record { harts = harts; memory = memory } })
    (first_moment image drawing run)
unfolding opening_state
moment_first image drawing run count harts memory draws harts_is memory_is draws_is count_is =
    let all = draws_is ∙ ap (λ n. draws_of_run drawing n run) count_is in
    λ i. record { draws = all i; state = record { harts = harts_is i; memory = memory_is i } }

pub is_opened : (image copy : ImageParts) (seen : MachineState) (opened harts : List HartState) (memory : MemoryParts)
    → seen ≡ opening_state image → copy ≡ image → opened ≡ seen.harts → harts ≡ seen.harts
    → memory.opening ≡ seen.memory → IsLawfulState (opening_state image) → IsRunner copy opened harts memory
unfolding opening_state
is_opened image copy seen opened harts memory is same opened_is harts_is memory_is lawful =
    let here : seen.harts ≡ map opening_hart image.harts = ap (λ (s : MachineState). s.harts) is in
    let there : seen.memory ≡ opening_memory image.ram image.granules = ap (λ (s : MachineState). s.memory) is in
    let made : IsRunner image opened harts memory = record {
      opening = opened_is ∙ here;
      memory_opening = memory_is ∙ there;
      count = ap length (harts_is ∙ here) ∙ length-map image.harts opening_hart;
      lawful = lawful;
    } in
    subst (λ (i : ImageParts). IsRunner i opened harts memory) (sym same) made
