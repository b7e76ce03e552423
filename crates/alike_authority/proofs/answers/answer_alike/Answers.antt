use Rattle.hart_exchanges.proofs.StayLemmas.{sights_stay}
use Rattle.alike_authority.proofs.answers.answer_alike.Goals as goal

pub survey-requires-clause-hidden : goal.survey-requires-clause-hidden
survey-requires-clause-hidden g c =
    sights_stay c.args.search.now.image.now.program c.args.reduction.now.live c.requires.right (λ reg. c.requires.asked reg) _
