use Rattle.std.proofs.Common.{arith}
use Rattle.explanations.proofs.PieceLemmas.{start_ascii, start_length}
use Rattle.explanations.proofs.pieces.LineStartInteger.write.Goals as goal

pub returns-clause-ascii : goal.returns-clause-ascii
returns-clause-ascii c = start_ascii c.args.self.0 (omega arith)

pub returns-clause-short : goal.returns-clause-short
returns-clause-short c = start_length c.args.self.0 (omega arith)
