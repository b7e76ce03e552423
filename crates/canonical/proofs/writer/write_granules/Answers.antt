use Rattle.canonical.specs.Canon.{granule_line}
use Rattle.canonical.proofs.WriterLemmas.{each_step, each_end}
use Rattle.canonical.proofs.writer.write_granules.Goals as goal

pub loop-addr-preserved : goal.loop-addr-preserved
loop-addr-preserved c =
    each_step granule_line c.args.granules.now c.loop-addr.addr-index c.loop-addr-item.result c.loop-addr-item.result _ _ _ c.loop-addr-test.true c.loop-addr-item.is
    c.in_ok-write_granule.ensures c.loop-addr.invariant

pub returns : goal.returns
returns c = each_end granule_line c.args.granules.now c.loop-addr.addr-index _ _ c.loop-addr-test.false c.loop-addr.invariant
