use Rattle.canonical.specs.Canon.{hart_lines}
use Rattle.canonical.proofs.WriterLemmas.{each_step, each_end}
use Rattle.canonical.proofs.writer.write_harts.Goals as goal

pub loop-hart-preserved : goal.loop-hart-preserved
loop-hart-preserved c =
    each_step hart_lines c.args.harts.now c.loop-hart.hart-index c.hart-item.result c.hart-item.result _ _ _ c.loop-hart-test.true c.hart-item.is
    c.in_ok-write_hart.ensures c.loop-hart.invariant

pub returns : goal.returns
returns c = each_end hart_lines c.args.harts.now c.loop-hart.hart-index _ _ c.loop-hart-test.false c.loop-hart.invariant
