use Rattle.std.proofs.Common.{arith}
use Rattle.std.proofs.lemmas.Grind.{common_steps}
use Rattle.canonical.specs.Canon.{setting_text}
use Rattle.canonical.proofs.writer.write_setting.Goals as goal

pub returns-in_ok-write : goal.returns-in_ok-write
unfolding setting_text
returns-in_ok-write c = grind (arith, common_steps)
