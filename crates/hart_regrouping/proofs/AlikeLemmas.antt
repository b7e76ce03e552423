-- States of which harts forget nothing, and are the same but for the order of each group.
use Rattle.std.proofs.Common.{◌≡◌, ℕ, ◌<◌, List, sym, ap, ◌∙◌}
use Rattle.std.specs.Prelude.{true}
use Rattle.std.proofs.lemmas.Bool.{eq-eqb}
use Rattle.cheri_model.specs.declared.instr.Instr.{Instr}
use Rattle.cheri_model.specs.runs.Machine.{MachineState, hart_at}
use Rattle.cheri_model.specs.steps.Hart.{HartState, register}
use Rattle.forgotten_runs.specs.ForgottenRuns.{forgotten_state}
use Rattle.forgotten_runs.proofs.OperationLemmas.{count_kept, hart_kept, memory_kept, pcc_kept, status_kept}
use Rattle.hart_order.specs.Arrangements.{group_of}
use Rattle.live_registers.specs.LiveSets.{IsRight, LiveSets}
use Rattle.live_registers.specs.RegisterSets.{has}
use Rattle.live_registers.proofs.ForgettingLemmas.{asked_stays}
use Rattle.hart_regrouping.specs.Regrouping.{AreAlike, IsRegrouping}
use Rattle.hart_regrouping.proofs.RegroupLemmas.{regrouping_other, regrouping_third}

module _ (program : List Instr) (live : LiveSets) (right : IsRight program live)
    (all : (reg : ℕ) → reg < 32 → has live.asked reg ≡ true) where
  kept_register : (s : MachineState) (hart reg : ℕ) → reg < 32 →
      register (hart_at (forgotten_state live s) hart) reg ≡ register (hart_at s hart) reg
  kept_register s hart reg low =
      ap (λ (h : HartState). register h reg) (hart_kept live s hart)
      ∙ asked_stays program live (hart_at s hart) reg right (all reg low)

  pub regrouped_alike : (groups : List ℕ) (s t r : MachineState) → IsRegrouping groups (forgotten_state live s) r →
      IsRegrouping groups (forgotten_state live t) r → AreAlike groups s t
  regrouped_alike groups s t r one other =
      let lost : MachineState → MachineState = λ u. forgotten_state live u in
      let by = regrouping_third groups (lost s) r (lost t) one (regrouping_other groups (lost t) r other) in
      let from = by.0 in
      let is = by.1.0 in
      record {
        from = from;
        to = is.to;
        there = is.there;
        back = is.back;
        staying = λ i none. is.staying i (eq-eqb (group_of groups i) 0 none);
        grouped = by.1.1;
        count = sym (count_kept live t) ∙ (is.count ∙ count_kept live s);
        harts = λ i. record {
          status = sym (status_kept live t i)
              ∙ (ap (λ (h : HartState). h.status) (is.harts i) ∙ status_kept live s (from i));
          pcc = sym (pcc_kept live t i) ∙ (ap (λ (h : HartState). h.pcc) (is.harts i) ∙ pcc_kept live s (from i));
          registers = λ reg low.
              sym (kept_register t i reg low)
              ∙ (ap (λ (h : HartState). register h reg) (is.harts i) ∙ kept_register s (from i) reg low);
        };
        memory = sym (memory_kept live t) ∙ (is.memory ∙ memory_kept live s);
      }
