use Rattle.forgotten_checks.proofs.CheckLemmas.{says_is}
use Rattle.forgotten_checks.proofs.answering.answer_of.Goals as goal

pub returns : goal.returns
returns c =
    says_is c.args.survey.now c.args.endless.now c.args.properties.now c.args.format c.in_ok-told.told.items _ _ _ c.args.left_out _ _ _ _ _ _ _
    c.in_ok-told.ensures c.as_slice.ensures.value c.as_slice-3.ensures.value c.as_slice-2.ensures.value c.head_of-head.ensures.reduced
    c.head_of-head.ensures.complete c.head_of-head.ensures.image c.head_of-head.ensures.states c.in_ok-text.ensures c.ending_of-ending.ensures
    c.in_ok-orders.ensures
