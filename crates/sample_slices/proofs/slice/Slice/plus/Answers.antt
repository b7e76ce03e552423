use Rattle.sample_slices.proofs.TextLemmas.{plus_is}
use Rattle.sample_slices.proofs.slice.Slice.plus.Goals as goal

pub returns-clause-sum : goal.returns-clause-sum
returns-clause-sum c =
    plus_is c.args.self c.args.other.now c.self.inside.question c.other.inside.question c.self.inside.numbers.items
    c.other.inside.numbers.items c.args.numbers.items c.self.inside.checked c.other.inside.checked c.in_ok-checked.checked
    c.self.view_is c.other.view_is c.in_ok-checked.ensures.sum c.in_ok-checked.ensures.decided c.in_ok-checked.ensures.same_harts
    c.in_ok-checked.ensures.same_granules
