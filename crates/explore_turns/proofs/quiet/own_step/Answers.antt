use Rattle.cheri_model.specs.steps.HartStep.{Stepped}
use Rattle.explore_turns.proofs.QuietLemmas.{alone_stepped}
use Rattle.explore_turns.proofs.quiet.own_step.Goals as goal

pub returns-clause-ram : goal.returns-clause-ram
returns-clause-ram c =
    let after : Stepped = record { hart = c.step.new.hart; memory = c.step.new.ram; outcome = c.step.result } in
    (alone_stepped c.args.program.now c.args.hart.now c.args.ram.now after c.requires c.step.ensures.value).1

pub returns-clause-value : goal.returns-clause-value
returns-clause-value c =
    let after : Stepped = record { hart = c.step.new.hart; memory = c.step.new.ram; outcome = c.step.result } in
    (alone_stepped c.args.program.now c.args.hart.now c.args.ram.now after c.requires c.step.ensures.value).0
