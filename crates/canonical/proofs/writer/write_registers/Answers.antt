use Rattle.canonical.proofs.WriterLemmas.{register_step, register_end}
use Rattle.canonical.proofs.writer.write_registers.Goals as goal

pub loop-place-preserved : goal.loop-place-preserved
loop-place-preserved c =
    register_step c.args.values.now c.loop-place.place c.index-values-place.result c.index-values-place.result _ _ _ c.loop-place-test.true
    c.index-values-place.is c.in_ok-write_register.ensures c.loop-place.invariant

pub returns : goal.returns
returns c = register_end c.args.values.now c.loop-place.place _ _ _ c.loop-place-test.false c.loop-place.invariant
