use Rattle.std.proofs.Common.{arith}
use Rattle.std.proofs.lemmas.Grind.{common_steps}
use Rattle.sinks.proofs.SinkLemmas.{takes_more, takes_all}
use Rattle.sinks.proofs.sink.put_whole.Goals as goal

pub loop-left-preserved : goal.loop-left-preserved
loop-left-preserved g c = record {
  taken = takes_more _ _ _ c.loop-left.left.now _ _ c.in_ok-taken.taken (grind (arith, common_steps)) c.loop-left.invariant.taken
      c.in_ok-taken.ensures.bytes;
  failures = cc (c.in_ok-taken.ensures.count, c.loop-left.invariant.failures);
  identity = cc (c.put.ensures.identity, c.loop-left.invariant.identity);
}

pub returns-clause-whole : goal.returns-clause-whole
returns-clause-whole g c = takes_all _ _ _ _ (grind (arith, common_steps)) c.loop-left.invariant.taken
