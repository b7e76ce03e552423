use Rattle.alike_outcomes.proofs.LeftLemmas.{left_is}
use Rattle.alike_outcomes.proofs.told.order_left.Goals as goal

pub returns : goal.returns
returns c =
    left_is c.args.survey.now c.args.node c.in_ok-order.order.items c.len-count.ensures.survey c.requires.there
    (λ s there. c.requires.stopped s there) (λ s there. c.in_ok-order.ensures s there)
