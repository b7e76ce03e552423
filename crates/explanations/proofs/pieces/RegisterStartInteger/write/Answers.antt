use Rattle.std.proofs.Common.{arith}
use Rattle.explanations.proofs.PieceLemmas.{register_ascii, register_length}
use Rattle.explanations.proofs.pieces.RegisterStartInteger.write.Goals as goal

pub returns-clause-ascii : goal.returns-clause-ascii
returns-clause-ascii c = register_ascii c.args.self.0 (omega arith)

pub returns-clause-short : goal.returns-clause-short
returns-clause-short c = register_length c.args.self.0 (omega arith)
