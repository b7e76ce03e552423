use Rattle.authority_texts.proofs.ToldLemmas.{line_written, lines_end}
use Rattle.authority_texts.proofs.text.write_list.Goals as goal

pub loop-told-preserved : goal.loop-told-preserved
loop-told-preserved c =
    line_written c.args.list.now c.loop-told.told-index c.told-item.result _ _ _ _ c.loop-told-test.true c.told-item.is c.in_ok-write_rights.ensures
    c.loop-told.invariant

pub returns : goal.returns
returns c = lines_end c.args.list.now c.loop-told.told-index _ _ c.loop-told-test.false c.loop-told.invariant
