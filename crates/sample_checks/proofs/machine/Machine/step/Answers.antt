use Rattle.std.proofs.Common.{◌≡◌, ◌<◌, ℕ, List, length, ap, ◌∙◌, arith}
use Rattle.std.specs.Prelude.{slice_set}
use Rattle.cap_model.specs.values.CapValue.{CapValue}
use Rattle.cheri_model.specs.declared.instr.Instr.{Instr}
use Rattle.cheri_model.specs.steps.HartStep.{hart_step}
use Rattle.cheri_model.specs.runs.Machine.{MachineState, hart_at, state_after_step}
use Rattle.sample_runs.specs.Runners.{RunnerParts, state_of}
use Rattle.sample_runs.proofs.RunLemmas.{read_hart, state_stepped}
use Rattle.sample_checks.proofs.machine.Machine.step.Goals as goal

pub returns-clause-state : goal.returns-clause-state
returns-clause-state c =
    let harts = c.self.inside.harts.items in
    let memory : List CapValue = c.self.inside.memory.now in
    let here : MachineState = record { harts = harts; memory = memory } in
    let same = ap (λ (r : RunnerParts). length r.harts) c.self.view_is in
    let inside : c.from.result < length harts = omega (arith, c.requires, same, c.from.ensures) in
    let was : c.index_mut-hart.result.now ≡ hart_at here c.args.number =
    read_hart harts memory c.from.result c.index_mut-hart.result.now inside c.index_mut-hart.ensures.value
    ∙ ap (hart_at here) c.from.ensures in
    let stepped = state_stepped c.self.inside.image harts memory c.step.new.self.now c.args.number
    c.index_mut-hart.result.now c.step.new.hart was
    (c.step.ensures.hart ∙ ap (λ (p : List Instr). (hart_step p c.index_mut-hart.result.now memory).hart) c.program.ensures)
    (c.step.ensures.memory ∙ ap (λ (p : List Instr). (hart_step p c.index_mut-hart.result.now memory).memory) c.program.ensures) in
    let after : ℕ → MachineState = λ k. record {
      harts = slice_set harts k c.step.new.hart;
      memory = c.step.new.self.now;
    } in
    ap after c.from.ensures ∙ stepped
    ∙ ap (λ (r : RunnerParts). state_after_step r.image (state_of r) c.args.number) c.self.view_is
