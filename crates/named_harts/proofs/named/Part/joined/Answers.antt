use Rattle.named_harts.proofs.StackLemmas.{join_tells}
use Rattle.named_harts.proofs.named.Part.joined.Goals as goal

pub returns : goal.returns
returns c joint first second left right =
    join_tells c.args.self.now c.args.other.now _ joint first second c.union.ensures c.union-2.ensures left right
