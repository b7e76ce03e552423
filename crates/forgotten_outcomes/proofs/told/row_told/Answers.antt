use Rattle.forgotten_outcomes.proofs.ToldLemmas.{row_is, text_alone}
use Rattle.forgotten_outcomes.proofs.told.row_told.Goals as goal

pub returns : goal.returns
returns c =
    let survey = c.args.survey.now in
    row_is survey c.args.shown.now c.args.row _ c.in_ok-order.order.items c.len-count.ensures.survey c.requires.asked (λ hart names. c.requires.named hart names)
    c.requires.there c.requires.stopped c.in_ok-order.ensures c.in_ok-values.ensures
    (text_alone _ _ _ _ c.new-text.ensures.bytes c.as_slice.ensures.value c.in_ok-write_order.ensures)
