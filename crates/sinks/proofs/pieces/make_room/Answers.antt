use Rattle.std.proofs.Common.{arith}
use Rattle.std.proofs.lemmas.Grind.{common_steps}
use Rattle.sinks.proofs.SinkLemmas.{puts_all}
use Rattle.sinks.proofs.pieces.make_room.Goals as goal

pub returns-in_ok-put_whole-clause-whole : goal.returns-in_ok-put_whole-clause-whole
returns-in_ok-put_whole-clause-whole g c =
    puts_all _ _ _ _ _ (grind (arith, common_steps)) c.as_bytes.ensures.value c.in_ok-put_whole.ensures.whole
