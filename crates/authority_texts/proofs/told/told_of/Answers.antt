use Rattle.authority_texts.proofs.ToldLemmas.{told_step}
use Rattle.authority_texts.proofs.told.told_of.Goals as goal

pub loop-authority-preserved : goal.loop-authority-preserved
loop-authority-preserved c =
    told_step c.args.kept.now c.args.list.now c.loop-authority.authority-index _ c.loop-authority.told.items _ c.in_ok-told_one.field-0
    c.loop-authority-test.true c.in_ok-push.ensures.items c.loop-authority.invariant c.in_ok-told_one.ensures
