-- The row that a hart's step leads to, by the step that was computed for its hart and granule.
use Rattle.std.proofs.Common.{◌≡◌, ℕ, ◌+◌, ◌<◌, List, length, map, ap, sym, ◌∙◌, subst}
use Rattle.std.specs.Prelude.{Some, slice_get, slice_set}
use Rattle.std.proofs.lemmas.List.{set-get_or, map-set}
use Rattle.std.proofs.lemmas.Option.{same_Some}
use Rattle.cap_model.specs.values.CapValue.{CapValue, raw}
use Rattle.cheri_model.specs.steps.Hart.{HartState}
use Rattle.cheri_model.specs.steps.HartStep.{hart_step}
use Rattle.cheri_model.specs.steps.Memory.{granule_at}
use Rattle.cheri_model.specs.runs.Image.{ImageParts}
use Rattle.cheri_model.specs.runs.Machine.{MachineState, state_after_step}
use Rattle.cheri_model.specs.runs.Machine as machine
use Rattle.state_store.specs.Stores.{Stored, hart_at, memory_at, state_of, Keeps}
use Rattle.state_store.proofs.StoreLemmas.{hart_at_kept}
use Rattle.state_store.proofs.ViewLemmas.{granule_in_memory}
use Rattle.states.specs.declared.locals.LocalStep.{LocalStep}
use Rattle.states.specs.Locals.{touched, local_step, local_value, IsLocalStep}
use Rattle.states.proofs.TouchLemmas.{IsLocal, step_is_local}
use Rattle.states.proofs.RowLemmas.{row_with_hart, row_with_memory}

module _ (image : ImageParts) (a b : Stored) (keeps : Keeps a b) (some : 0 < a.granules)
    (node row : List ℕ) (s : MachineState) (is : state_of a node ≡ Some s) (j h m k v : ℕ)
    (hart_there : hart_at a h ≡ Some (machine.hart_at s j)) (memory_there : memory_at a m ≡ Some s.memory)
    (row_there : slice_get a.memories m ≡ Some row)
    (site : k ≡ touched image.program a.granules (machine.hart_at s j)) (value_there : slice_get row k ≡ Some v)
    (after : LocalStep) (rests : HartState → HartState) (step : IsLocalStep image.program rests b h v after)
    (all_rest : map rests s.harts ≡ s.harts) where
  abbrev pub hart : HartState
  hart = machine.hart_at s j

  abbrev value : CapValue
  value = granule_at s.memory k

  before_is : step.before ≡ hart
  before_is =
      same_Some step.before hart (sym step.hart_is
      ∙ hart_at_kept a b keeps h hart hart_there)

  size : length s.memory ≡ a.granules
  size = (granule_in_memory a m row s.memory k v memory_there row_there value_there).0

  value_is : step.granule ≡ value
  value_is =
      same_Some step.granule value (sym step.value_is
      ∙ keeps.values v value (granule_in_memory a m row s.memory k v memory_there row_there value_there).1)

  granules : b.granules ≡ length s.memory
  granules = keeps.granules ∙ sym size

  at_size : k ≡ touched image.program (length s.memory) hart
  at_size = site ∙ ap (λ (n : ℕ). touched image.program n hart) (sym size)

  local : IsLocal image.program hart s.memory value
  local =
      step_is_local image.program hart s.memory value (subst (λ (n : ℕ). 0 < n) (sym size) some)
      (ap (granule_at s.memory) (sym at_size))

  hart_after : hart_at b after.hart ≡ Some (rests (hart_step image.program hart s.memory).hart)
  hart_after =
      step.hart_after ∙ ap (λ (x : HartState). Some (rests x))
      (ap (λ (n : ℕ). (local_step image.program n step.before step.granule).hart) granules
      ∙ (ap (λ (x : HartState). (local_step image.program (length s.memory) x step.granule).hart) before_is
      ∙ (ap (λ (x : CapValue). (local_step image.program (length s.memory) hart x).hart) value_is ∙ sym local.hart)))

  -- the value that the step leaves in the granule
  abbrev pub left : CapValue
  left = local_value image.program (length s.memory) hart value

  pub value_after : slice_get b.values after.value ≡ Some left
  value_after =
      step.value_after ∙ ap (λ (x : CapValue). Some x)
      (ap (λ (n : ℕ). local_value image.program n step.before step.granule) granules
      ∙ (ap (λ (x : HartState). local_value image.program (length s.memory) x step.granule) before_is
      ∙ ap (λ (x : CapValue). local_value image.program (length s.memory) hart x) value_is))

  memory_after : (hart_step image.program hart s.memory).memory ≡ slice_set s.memory k left
  memory_after = local.memory ∙ ap (λ (i : ℕ). slice_set s.memory i left) (sym at_size)

  -- the state after the step, with each hart at its rest
  abbrev pub rested_after : MachineState
  rested_after =
      record { harts = map rests (state_after_step image s j).harts; memory = (state_after_step image s j).memory }

  harts_after : slice_set s.harts j (rests (hart_step image.program hart s.memory).hart)
      ≡ map rests (slice_set s.harts j (hart_step image.program hart s.memory).hart)
  harts_after =
      ap (λ (hs : List HartState). slice_set hs j (rests (hart_step image.program hart s.memory).hart)) (sym all_rest)
      ∙ sym (map-set rests s.harts j (hart_step image.program hart s.memory).hart)

  -- the state with the hart after the step
  abbrev halfway : MachineState
  halfway =
      record { harts = map rests (slice_set s.harts j (hart_step image.program hart s.memory).hart); memory = s.memory }

  pub half_row : state_of b (slice_set node (j + 1) after.hart) ≡ Some halfway
  half_row =
      row_with_hart a b keeps node s j after.hart (rests (hart_step image.program hart s.memory).hart) is hart_after
      ∙ ap (λ (hs : List HartState). Some (record { harts = hs; memory = s.memory })) harts_after

  -- the row with the hart and a memory after the step
  pub stepped_row : (c : Stored) → Keeps b c → (n : ℕ) → memory_at c n ≡ Some (slice_set s.memory k left) →
      state_of c (slice_set (slice_set node (j + 1) after.hart) 0 n) ≡ Some rested_after
  unfolding state_after_step
  stepped_row c further n there =
      row_with_memory b c further (slice_set node (j + 1) after.hart) halfway n (hart_step image.program hart s.memory).memory
      half_row (there ∙ ap (λ (l : List CapValue). Some l) (sym memory_after))

  -- the row with the hart after the step, where the granule's value stays
  pub same_row : after.value ≡ v → state_of b (slice_set node (j + 1) after.hart) ≡ Some rested_after
  unfolding state_after_step granule_at
  same_row same =
      let stays : value ≡ left =
      same_Some value left (sym (keeps.values v value
      (granule_in_memory a m row s.memory k v memory_there row_there value_there).1)
      ∙ (ap (slice_get b.values) (sym same) ∙ value_after)) in
      half_row ∙ ap (λ (l : List CapValue).
      Some (record { harts = map rests (slice_set s.harts j (hart_step image.program hart s.memory).hart); memory = l }))
      (sym (set-get_or s.memory k (raw 0)) ∙ (ap (slice_set s.memory k) stays ∙ sym memory_after))
