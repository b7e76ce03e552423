use Rattle.named_harts.proofs.StackLemmas.{says_tells}
use Rattle.named_harts.proofs.named.Part.of.Goals as goal

pub returns : goal.returns
returns c = says_tells c.args.atom.now _ c.of_atom.ensures c.of_atom-2.ensures
