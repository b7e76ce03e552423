use Rattle.std.proofs.Common.{rules}
use Rattle.command_line.proofs.requests.run_request.Goals as goal

pub returns-in_err-listing : goal.returns-in_err-listing
returns-in_err-listing c = search rules

pub returns-in_err-order : goal.returns-in_err-order
returns-in_err-order c = search rules

pub returns : goal.returns
returns c = search rules
