use Rattle.std.proofs.Common.{arith}
use Rattle.std.proofs.lemmas.Grind.{common_steps}
use Rattle.canonical.specs.Canon.{register_line}
use Rattle.canonical.proofs.writer.write_register.Goals as goal

pub returns-in_ok-push_str : goal.returns-in_ok-push_str
unfolding register_line
returns-in_ok-push_str c = grind (arith, common_steps)
