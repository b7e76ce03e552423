use Rattle.cap_ops.proofs.MadeAgain.{made_again}
use Rattle.cap_ops.proofs.laws.parts_make_it_again.Goals as goal

pub returns : goal.returns
returns c = made_again
