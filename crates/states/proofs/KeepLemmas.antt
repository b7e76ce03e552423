-- What a graph keeps while it learns.
use Rattle.std.proofs.Common.{◌≡◌, ℕ, ◌-◌, ◌*◌, ◌<◌, ◌≤◌, List, [], ◌∷◌, ◌++◌, length, arith, ap, sym, ◌∙◌, subst, ◌⊎◌}
use Rattle.std.specs.Prelude.{Some, Result, IfOk, OnErr, Bool, nat_lt, if◌then◌else◌, take}
use Rattle.cap_model.specs.values.CapValue.{CapValue}
use Rattle.cheri_model.specs.steps.Hart.{HartState}
use Rattle.cheri_model.specs.runs.Image.{ImageParts}
use Rattle.explore_sights.specs.declared.sights.Sight.{Sight}
use Rattle.explore_turns.specs.Turns.{resting}
use Rattle.schedules.specs.declared.ranges.SweepRange.{SweepRange}
use Rattle.state_store.specs.Numbered.{IsThereOrLast}
use Rattle.state_store.specs.Stores.{Stored, hart_at, Keeps}
use Rattle.states.specs.declared.steps.KnownStep.{KnownStep}
use Rattle.states.specs.Locals.{site_of, IsLocalStep, IsTabled}
use Rattle.states.specs.Graphs.{IsGraph}
use Rattle.states.proofs.SizeLemmas.{sizes_of}
use Rattle.states.proofs.TableLemmas.{tabled_same, tabled_numbered, tabled_step}

module _ (image : ImageParts) (sweeps : List SweepRange) (sight : Sight) (a : Stored) (sites : List ℕ)
    (steps : List KnownStep) (ram : List CapValue) (row : List ℕ) (was : IsGraph image sweeps sight a sites steps ram row) where
  abbrev rests : HartState → HartState
  rests = resting image sweeps sight

  pub granules_some : 0 < a.granules
  granules_some =
      let some = (sizes_of image was.formed).ram_some in
      let size = was.granules in
      omega arith

  pub granules_few : a.granules ≤ 65536
  granules_few =
      let few = (sizes_of image was.formed).ram_few in
      let size = was.granules in
      omega arith

  -- the store and the row in which memories are made changed, and no hart is new
  pub graph_stored : (b : Stored) (row' : List ℕ) → Keeps a b → length b.harts ≡ length a.harts →
      length row' ≡ length row → IsGraph image sweeps sight b sites steps ram row'
  graph_stored b row' keeps same size = record {
    formed = was.formed;
    few = was.few;
    granules = ap (λ (n : ℕ). 16 * n) keeps.granules ∙ was.granules;
    ram_size = was.ram_size ∙ sym keeps.granules;
    row_size = size ∙ (was.row_size ∙ sym keeps.granules);
    tabled = tabled_same image.program rests a b sites steps keeps same was.tabled;
  }

  -- a hart got a number
  pub graph_numbered : {E : Type 0} (b : Stored) (sites' : List ℕ) (hart : HartState) (result : Result ℕ E) (site : ℕ)
      (grown : Bool) → Keeps a b → site ≡ site_of image.program a.granules hart → rests hart ≡ hart →
      grown ≡ nat_lt (length a.harts) (length b.harts) → IfOk result (λ id. hart_at b id ≡ Some hart) →
      IfOk result (λ id. IsThereOrLast a.harts b.harts id) → OnErr result (b.harts ≡ a.harts) →
      sites' ≡ (if grown then sites ++ site ∷ [] else take (length (sites ++ site ∷ []) - 1) (sites ++ site ∷ [])) →
      IsGraph image sweeps sight b sites' steps ram row
  graph_numbered {E} b sites' hart result site grown keeps same rested is there added refused left = record {
    formed = was.formed;
    few = was.few;
    granules = ap (λ (n : ℕ). 16 * n) keeps.granules ∙ was.granules;
    ram_size = was.ram_size ∙ sym keeps.granules;
    row_size = was.row_size ∙ sym keeps.granules;
    tabled = subst (λ (ss : List ℕ). IsTabled image.program rests b ss steps) (sym left)
        (tabled_numbered image.program rests a b sites steps hart result site grown keeps same rested is there added refused
        was.tabled);
  }

  -- a step was kept
  pub graph_kept : (steps' : List KnownStep) (step : KnownStep) →
      IsLocalStep image.program rests a step.hart step.value step.after →
      (steps' ≡ steps) ⊎ (steps' ≡ steps ++ step ∷ []) → IsGraph image sweeps sight a sites steps' ram row
  graph_kept steps' step is kept = record {
    formed = was.formed;
    few = was.few;
    granules = was.granules;
    ram_size = was.ram_size;
    row_size = was.row_size;
    tabled = tabled_step image.program rests a sites steps steps' step was.tabled is kept;
  }
