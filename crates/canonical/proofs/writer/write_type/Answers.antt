use Rattle.std.proofs.Common.{arith}
use Rattle.std.proofs.lemmas.Grind.{common_steps}
use Rattle.canonical.specs.Canon.{type_text}
use Rattle.canonical.proofs.writer.write_type.Goals as goal

pub returns-in_ok-push_str-in-262142 : goal.returns-in_ok-push_str-in-262142
unfolding type_text
returns-in_ok-push_str-in-262142 c = grind (arith, common_steps)
