use Rattle.std.proofs.Common.{refl}
use Rattle.facts.proofs.Stopped.{same_trapped_facts}
use Rattle.facts.proofs.finishing.trapped_facts.Goals as goal

pub returns : goal.returns
returns c hart memory from seen stopped =
    same_trapped_facts c.args.number hart c.args.after.now memory from c.args.seen.now.fetched c.args.trap _ stopped
    (rw (c.trapped_by.ensures, seen.pc, seen.reads, seen.at) refl)
