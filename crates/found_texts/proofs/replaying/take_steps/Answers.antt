use Rattle.std.proofs.Common.{◌≡◌, ℕ, refl, ap, ◌∙◌}
use Rattle.std.specs.Prelude.{slice_index_or}
use Rattle.cheri_model.specs.declared.operation.Op.TheVariants as operation
use Rattle.cheri_model.specs.runs.Machine.{MachineState, state_after_one}
use Rattle.explore_turns.proofs.TurnLemmas.{same_state}
use Rattle.found_texts.proofs.ReplayLemmas.{ends_here, no_sweep, step_on, step_there}
use Rattle.found_texts.proofs.replaying.take_steps.Goals as goal
use Rattle.found_texts.proofs.replaying.take_steps.Goals.{in-Step, in-Sweep}

pub take_step-requires : goal.take_step-requires
take_step-requires c =
    let here : MachineState = record { harts = c.loop-op.harts; memory = c.loop-op.ram } in
    let low = step_there c.args.image.now here _ c.loop-op.op-index c.args.order.now
    (slice_index_or c.args.order.now c.loop-op.op-index (operation.Step 0)) (operation.Step 0) c.in-Step.number
    c.loop-op-test.true refl c.in-Step.is c.loop-op.invariant in
    rw c.from.ensures low

pub loop-op-preserved : goal.loop-op-preserved
loop-op-preserved c =
    let here : MachineState = record { harts = c.loop-op.harts; memory = c.loop-op.ram } in
    let there : MachineState = record { harts = c.match-op.harts; memory = c.match-op.ram } in
    let op = slice_index_or c.args.order.now c.loop-op.op-index (operation.Step 0) in
    elim c.match-op.branch [
      | in-Step w ↦
          let leads : there ≡ state_after_one c.args.image.now here (operation.Step w.in-Step.number) =
          same_state c.match-op.harts w.take_step.new.harts c.match-op.ram w.take_step.new.ram w.harts-is w.ram-is
          ∙ (w.take_step.ensures
          ∙ ap (λ (k : ℕ). state_after_one c.args.image.now here (operation.Step k)) w.from.ensures) in
          step_on c.args.image.now here there _ c.loop-op.op-index c.args.order.now op (operation.Step 0) w.in-Step.number
          c.loop-op-test.true refl w.in-Step.is leads c.loop-op.invariant
      | in-Sweep w ↦
          absurd (no_sweep c.args.image.now here _ c.loop-op.op-index c.args.order.now op (operation.Step 0) w.in-Sweep.lo w.in-Sweep.hi
          c.loop-op-test.true refl w.in-Sweep.is c.loop-op.invariant)
    ]

pub returns : goal.returns
returns c =
    ends_here c.args.image.now (record { harts = c.loop-op.harts; memory = c.loop-op.ram }) _ c.loop-op.op-index c.args.order.now
    c.loop-op-test.false c.loop-op.invariant
