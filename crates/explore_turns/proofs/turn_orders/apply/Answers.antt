use Rattle.std.proofs.Common.{◌≡◌, ◌<◌, List, length, set, get_or, ap, sym, ◌∙◌}
use Rattle.std.specs.Prelude.{slice_index_or}
use Rattle.std.proofs.lemmas.Option.{slice_get-get_or, get_or_from_slice_get}
use Rattle.cap_model.specs.values.CapValue.{CapValue}
use Rattle.cheri_model.specs.declared.instr.Instr.{Instr}
use Rattle.cheri_model.specs.declared.operation.Op.{Op}
use Rattle.cheri_model.specs.runs.Machine.{MachineState, hart_at, no_hart, state_after_one, state_after_step, swept_state}
use Rattle.cheri_model.specs.steps.Hart.{HartState}
use Rattle.cheri_model.specs.steps.HartStep.{Stepped, hart_step}
use Rattle.explore_turns.proofs.OrderLemmas.{step_made, sweep_made}
use Rattle.explore_turns.proofs.turn_orders.apply.Goals as goal

pub returns-in-Step : goal.returns-in-Step
returns-in-Step c =
    let a = c.args in
    let low : c.in-Step.hart < length a.harts.now = c.requires c.in-Step.hart c.in-Step.is in
    let after : Stepped = record { hart = c.step.new.hart; memory = c.step.new.ram; outcome = c.step.result } in
    let stepped : hart_step c.program.result.now (get_or a.harts.now c.in-Step.hart c.index-harts-hart.result) a.ram.now ≡ after =
    c.step.ensures.value in
    step_made a.image.now a.harts.now a.ram.now c.in-Step.hart c.index-harts-hart.result
    after low c.index-harts-hart.is
    (ap (λ (p : List Instr). hart_step p c.index-harts-hart.result a.ram.now) (sym c.program.ensures)
    ∙ (ap (λ (h : HartState). hart_step c.program.result.now h a.ram.now) c.index-harts-hart.is ∙ stepped))
    ∙ ap (λ (o : Op). state_after_one a.image.now (record { harts = a.harts.now; memory = a.ram.now }) o) (sym c.in-Step.is)

pub returns-in-Sweep : goal.returns-in-Sweep
returns-in-Sweep c =
    let a = c.args in
    sweep_made a.image.now a.harts.now c.sweep_harts.new.harts a.ram.now c.sweep.new.self c.in-Sweep.lo c.in-Sweep.hi
    c.sweep_harts.ensures c.sweep.ensures.memory
    ∙ ap (λ (o : Op). state_after_one a.image.now (record { harts = a.harts.now; memory = a.ram.now }) o) (sym c.in-Sweep.is)
