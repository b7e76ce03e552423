use Rattle.std.proofs.Common.{arith}
use Rattle.std.proofs.lemmas.Grind.{common_steps}
use Rattle.command_line.proofs.requests.bounds_request.Goals as goal

pub returns-in_err-base : goal.returns-in_err-base
returns-in_err-base c = grind (arith, common_steps)

pub returns-in_err-len : goal.returns-in_err-len
returns-in_err-len c = grind (arith, common_steps)

pub returns : goal.returns
returns c = grind (arith, common_steps)
