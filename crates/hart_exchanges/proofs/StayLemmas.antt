-- Where all registers are asked for, none is forgotten.
use Rattle.std.proofs.Common.{◌≡◌, ℕ, List, [], ◌∷◌, map, refl, ap, ◌∙◌}
use Rattle.std.specs.Prelude.{Bool, true}
use Rattle.std.proofs.lemmas.List.{ext_get_or}
use Rattle.cap_model.specs.values.CapValue.{CapValue}
use Rattle.cheri_model.specs.declared.instr.Instr.{Instr}
use Rattle.cheri_model.specs.runs.Machine.{MachineState}
use Rattle.cheri_model.specs.steps.Hart.{HartState, null}
use Rattle.explore_sights.specs.Sights.{hides}
use Rattle.explore_sights.specs.declared.sights.Sight.{Sight}
use Rattle.forgotten_runs.specs.ForgottenRuns.{forgotten_state}
use Rattle.forgotten_turns.specs.ForgottenTurns.{HidesForgotten}
use Rattle.live_registers.specs.LiveSets.{IsRight, LiveSets, forgotten_hart, set_of}
use Rattle.live_registers.specs.RegisterSets.{forgotten, has, kept}
use Rattle.live_registers.proofs.SetLemmas.{kept_in, length-kept}
use Rattle.live_registers.proofs.StepLemmas.{asked_of}

kept_all : (set : List Bool) (regs : List CapValue) → ((reg : ℕ) → has set reg ≡ true) → kept set regs ≡ regs
kept_all set regs all =
    ext_get_or null (kept set regs) regs (length-kept set regs) (λ reg inside. kept_in set regs reg (all reg))

module _ (program : List Instr) (live : LiveSets) (right : IsRight program live)
    (all : (reg : ℕ) → has live.asked reg ≡ true) where
  pub hart_stays : (hart : HartState) → forgotten_hart live hart ≡ hart
  unfolding forgotten_hart forgotten
  hart_stays hart =
      ap (λ (regs : List CapValue). record hart { regs = regs })
      (kept_all (set_of live hart) hart.regs (λ reg. asked_of live right.asked hart reg (all reg)))

  harts_stay : (harts : List HartState) → map (forgotten_hart live) harts ≡ harts
  harts_stay [] = refl
  harts_stay (hart ∷ harts) =
      ap (λ (h : HartState). h ∷ map (forgotten_hart live) harts) (hart_stays hart)
      ∙ ap (λ (hs : List HartState). hart ∷ hs) (harts_stay harts)

  pub state_stays : (state : MachineState) → forgotten_state live state ≡ state
  unfolding forgotten_state
  state_stays state = ap (λ (hs : List HartState). record state { harts = hs }) (harts_stay state.harts)

  pub sights_stay : (sight : Sight) → HidesForgotten live (hides sight)
  sights_stay sight before after =
      ap (λ (h : HartState). hides sight h (forgotten_hart live after)) (hart_stays before)
      ∙ ap (hides sight before) (hart_stays after)
