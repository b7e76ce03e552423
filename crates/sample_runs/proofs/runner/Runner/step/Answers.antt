use Rattle.std.proofs.Common.{◌≡◌, ◌<◌, ℕ, List, length, ap, ◌∙◌, arith}
use Rattle.std.specs.Prelude.{slice_set}
use Rattle.cap_model.specs.values.CapValue.{CapValue}
use Rattle.cheri_model.specs.declared.instr.Instr.{Instr}
use Rattle.cheri_model.specs.declared.operation.Op.TheVariants as operation
use Rattle.cheri_model.specs.steps.HartStep.{hart_step}
use Rattle.cheri_model.specs.runs.Machine.{MachineState, hart_at, state_after_step}
use Rattle.sample_draws.specs.Draws.{done}
use Rattle.sample_draws.specs.Orders.{told}
use Rattle.sample_runs.specs.Runners.{RunnerParts, state_of}
use Rattle.sample_runs.proofs.DrawLemmas.{may_end, told_step}
use Rattle.sample_runs.proofs.OpenLemmas.{harts_are_few}
use Rattle.sample_runs.proofs.RunLemmas.{read_hart, put_hart, state_stepped}
use Rattle.sample_runs.proofs.runner.Runner.step.Goals as goal

pub begin_step-requires : goal.begin_step-requires
begin_step-requires c =
    let harts = harts_are_few c.self.inside.image c.granules-granules.ensures.formed in
    let same = ap (λ (r : RunnerParts). length r.harts) c.self.view_is in
    omega (arith, harts.few, c.requires.hart, same, c.self.invariant.count)

pub end_step-requires : goal.end_step-requires
end_step-requires c =
    may_end c.args.number c.index_mut-hart.result.now c.args.draws.now c.begin_step.new.self c.begin_step.ensures
    c.requires.steps

pub returns-clause-state : goal.returns-clause-state
returns-clause-state c =
    let harts = c.self.inside.harts.items in
    let memory : List CapValue = c.self.inside.memory.now in
    let here : MachineState = record { harts = harts; memory = memory } in
    let same = ap (λ (r : RunnerParts). length r.harts) c.self.view_is in
    let inside : c.from.result < length harts = omega (arith, c.requires.hart, same, c.from.ensures) in
    let was : c.index_mut-hart.result.now ≡ hart_at here c.args.number =
    read_hart harts memory c.from.result c.index_mut-hart.result.now inside c.index_mut-hart.ensures.value
    ∙ ap (hart_at here) c.from.ensures in
    let stepped = state_stepped c.self.inside.image harts memory c.step-changed.new.self.now c.args.number
    c.index_mut-hart.result.now c.step-changed.new.hart was
    (c.step-changed.ensures.hart ∙ ap (λ (p : List Instr). (hart_step p c.index_mut-hart.result.now memory).hart) c.program.ensures)
    (c.step-changed.ensures.memory ∙ ap (λ (p : List Instr). (hart_step p c.index_mut-hart.result.now memory).memory) c.program.ensures) in
    let after : ℕ → MachineState = λ k. record {
      harts = slice_set harts k c.step-changed.new.hart;
      memory = c.step-changed.new.self.now;
    } in
    ap after c.from.ensures ∙ stepped
    ∙ ap (λ (r : RunnerParts). state_after_step r.image (state_of r) c.args.number) c.self.view_is

pub returns-clause-draws : goal.returns-clause-draws
returns-clause-draws c =
    let harts = c.self.inside.harts.items in
    let memory : List CapValue = c.self.inside.memory.now in
    let here : MachineState = record { harts = harts; memory = memory } in
    let there : MachineState = record {
      harts = slice_set harts c.from.result c.step-changed.new.hart;
      memory = c.step-changed.new.self.now;
    } in
    let same = ap (λ (r : RunnerParts). length r.harts) c.self.view_is in
    let inside : c.from.result < length harts = omega (arith, c.requires.hart, same, c.from.ensures) in
    let was : c.index_mut-hart.result.now ≡ hart_at here c.args.number =
    read_hart harts memory c.from.result c.index_mut-hart.result.now inside c.index_mut-hart.ensures.value
    ∙ ap (hart_at here) c.from.ensures in
    let now : c.step-changed.new.hart ≡ hart_at there c.args.number =
    put_hart harts c.step-changed.new.self.now c.from.result c.step-changed.new.hart inside
    ∙ ap (hart_at there) c.from.ensures in
    told_step here there c.args.number c.index_mut-hart.result.now c.step-changed.new.hart c.step-changed.result
    c.args.draws.now c.end_step.new.self was now c.step-changed.ensures.changed
    (c.end_step.ensures ∙ ap (done c.step-changed.new.hart c.step-changed.result) c.begin_step.ensures)
    ∙ ap (λ (r : RunnerParts). told (operation.Step c.args.number) (state_of r) there c.args.draws.now) c.self.view_is
