-- What harts forget makes no difference to an order.
use Rattle.std.proofs.Common.{◌≡◌, ℕ, List, [], ◌∷◌, refl, ap, ◌∙◌, inl, inr}
use Rattle.std.specs.Prelude.{Bool, true, ◌&&◌}
use Rattle.std.proofs.lemmas.Bool.{cases_Bool, and_parts}
use Rattle.cheri_model.specs.declared.operation.Op.{Op}
use Rattle.cheri_model.specs.runs.Image.{ImageParts}
use Rattle.cheri_model.specs.runs.Machine.{MachineState, hart_at, may_take, state_after_one}
use Rattle.cheri_model.specs.runs.Replay.{is_legal, state_after}
use Rattle.live_registers.specs.LiveSets.{LiveSets, IsRight}
use Rattle.forgotten_runs.specs.ForgottenRuns.{forgotten_state, forgotten_after, forgotten_run, is_legal_run}
use Rattle.forgotten_runs.proofs.OperationLemmas.{may_kept, memory_kept, pcc_kept, status_kept, after_forgets}

module _ (live : LiveSets) (image : ImageParts) (right : IsRight image.program live) where
  -- the state after the first operation, as an order goes on from it
  after_first : (s : MachineState) (op : Op) → may_take s op ≡ true →
      forgotten_after live image (forgotten_state live s) op ≡ forgotten_state live (state_after_one image s op)
  unfolding forgotten_after
  after_first s op may = after_forgets live image right s op may

  pub legal_kept : (s : MachineState) (order : List Op) →
      is_legal_run live image (forgotten_state live s) order ≡ is_legal image s order
  unfolding is_legal_run is_legal
  legal_kept s [] = refl
  legal_kept s (op ∷ order) =
      let later = is_legal_run live image (forgotten_after live image (forgotten_state live s) op) order in
      ap (λ (may : Bool). may && later) (may_kept live s op)
      ∙ elim (cases_Bool (may_take s op)) [
        | inl taken ↦
            ap (λ (t : MachineState). may_take s op && is_legal_run live image t order) (after_first s op taken)
            ∙ ap (λ (legal : Bool). may_take s op && legal) (legal_kept (state_after_one image s op) order)
        | inr refused ↦ rw refused refl
      ]

  pub run_forgets : (s : MachineState) (order : List Op) → is_legal image s order ≡ true →
      forgotten_run live image (forgotten_state live s) order ≡ forgotten_state live (state_after image s order)
  unfolding forgotten_run is_legal state_after
  run_forgets s [] legal = refl
  run_forgets s (op ∷ order) legal =
      let parts = and_parts (may_take s op) (is_legal image (state_after_one image s op) order) legal in
      ap (λ (t : MachineState). forgotten_run live image t order) (after_first s op parts.0)
      ∙ run_forgets (state_after_one image s op) order parts.1

  pub run_memory : (s : MachineState) (order : List Op) → is_legal image s order ≡ true →
      (forgotten_run live image (forgotten_state live s) order).memory ≡ (state_after image s order).memory
  run_memory s order legal =
      ap (λ (t : MachineState). t.memory) (run_forgets s order legal) ∙ memory_kept live (state_after image s order)

  pub run_pcc : (s : MachineState) (order : List Op) (hart : ℕ) → is_legal image s order ≡ true →
      (hart_at (forgotten_run live image (forgotten_state live s) order) hart).pcc ≡ (hart_at (state_after image s order) hart).pcc
  run_pcc s order hart legal =
      ap (λ (t : MachineState). (hart_at t hart).pcc) (run_forgets s order legal) ∙ pcc_kept live (state_after image s order) hart

  pub run_status : (s : MachineState) (order : List Op) (hart : ℕ) → is_legal image s order ≡ true →
      (hart_at (forgotten_run live image (forgotten_state live s) order) hart).status ≡ (hart_at (state_after image s order) hart).status
  run_status s order hart legal =
      ap (λ (t : MachineState). (hart_at t hart).status) (run_forgets s order legal) ∙ status_kept live (state_after image s order) hart
