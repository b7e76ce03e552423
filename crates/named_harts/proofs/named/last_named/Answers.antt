use Rattle.named_harts.proofs.StackLemmas.{named_none, named_some}
use Rattle.named_harts.proofs.named.last_named.Goals as goal

pub returns-in-Some : goal.returns-in-Some
returns-in-Some c formulas are =
    named_some formulas c.args.parts.now c.in-Some.part.now c.in-Some.ensures.item.3.0 c.in-Some.ensures.item.1 are

pub returns-in-None : goal.returns-in-None
returns-in-None c formulas are =
    named_none formulas c.args.parts.now c.only.result c.only.ensures c.in-None.ensures.item.3 are
