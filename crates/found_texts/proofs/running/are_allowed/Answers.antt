use Rattle.std.proofs.Common.{List, take, sym, subst, refl}
use Rattle.std.proofs.lemmas.List.{take_more}
use Rattle.cheri_model.specs.declared.operation.Op.{Op}
use Rattle.schedules.specs.Schedules.{AreAllowed}
use Rattle.found_texts.proofs.RunLemmas.{allowed_more}
use Rattle.found_texts.proofs.running.are_allowed.Goals as goal

pub loop-op-preserved : goal.loop-op-preserved
loop-op-preserved c =
    subst (λ (ops : List Op). AreAllowed c.args.sweeps.now ops)
    (sym (take_more c.args.order.now c.loop-op.op-index _ c.loop-op-test.true))
    (allowed_more c.args.sweeps.now (take c.loop-op.op-index c.args.order.now) _ c.loop-op.invariant (c.if-not-is_allowed.ensures refl))
