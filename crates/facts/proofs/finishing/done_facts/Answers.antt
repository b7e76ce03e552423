use Rattle.std.proofs.Common.{length}
use Rattle.facts.proofs.finishing.done_facts.Goals as goal

pub each_named-facts-requires-clause-spots : goal.each_named-facts-requires-clause-spots
each_named-facts-requires-clause-spots c = c.sets_of.ensures.spots (length c.args.after.ram.now)
