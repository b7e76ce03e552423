use Rattle.sample_runs.proofs.MemoryLemmas.{swept_kept}
use Rattle.sample_runs.proofs.memory.RunMemory.sweep.Goals as goal

pub invariant_of-self : goal.invariant_of-self
invariant_of-self c =
    swept_kept c.self.inside.opening c.self.inside.ram c.sweep.new.self c.self.inside.changes.items c.self.inside.whole
    c.args.lo c.args.hi c.self.invariant c.sweep.ensures.memory
