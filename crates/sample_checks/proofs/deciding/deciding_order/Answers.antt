use Rattle.std.proofs.Common.{take, sym, ap, ◌∙◌}
use Rattle.sample_checks.proofs.DecidedLemmas.{drawn_legal}
use Rattle.sample_checks.proofs.DecidingLemmas.{part_none, part_some}
use Rattle.sample_checks.proofs.deciding.deciding_order.Goals as goal

pub decided_after-requires : goal.decided_after-requires
decided_after-requires c =
    drawn_legal c.args.runner.now.image c.in_ok-machine.machine.image c.args.drawing.now c.args.run c.as_slice.result.now
    c.seed-seed.ensures.drawing (c.in_ok-machine.ensures ∙ (c.image.ensures ∙ c.order.ensures.image))
    (c.as_slice.ensures.value ∙ c.in_ok-order.ensures.order)

pub returns-in-None-clause-none : goal.returns-in-None-clause-none
returns-in-None-clause-none c =
    part_none c.args.runner.now.image c.in_ok-machine.machine.image c.args.property.now.claim c.claim.result.now _
    c.as_slice.result.now c.in_ok-after.after (c.in_ok-machine.ensures ∙ (c.image.ensures ∙ c.order.ensures.image))
    c.claim.ensures (c.as_slice.ensures.value ∙ c.in_ok-order.ensures.order) c.in_ok-after.ensures.value c.in-None.is

pub returns-in-Some-clause-order : goal.returns-in-Some-clause-order
returns-in-Some-clause-order c =
    part_some c.args.runner.now.image c.in_ok-machine.machine.image c.args.property.now.claim c.claim.result.now _
    c.as_slice.result.now c.truncate.new.self.items c.in_ok-after.after c.in-Some.after
    (c.in_ok-machine.ensures ∙ (c.image.ensures ∙ c.order.ensures.image)) c.claim.ensures
    (c.as_slice.ensures.value ∙ c.in_ok-order.ensures.order) c.in_ok-after.ensures.value c.in-Some.is
    (c.truncate.ensures.items ∙ ap (take c.in-Some.after) (sym c.as_slice.ensures.value))
