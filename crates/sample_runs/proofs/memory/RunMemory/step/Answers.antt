use Rattle.std.proofs.Common.{◌≡◌, true, rules}
use Rattle.sample_runs.proofs.MemoryLemmas.{noted}
use Rattle.sample_runs.proofs.memory.RunMemory.step.Goals as goal

pub invariant_of-self-then-note : goal.invariant_of-self-then-note
invariant_of-self-then-note c =
    let yes : c.note.result ≡ true = search rules in
    noted c.self.inside.opening c.self.inside.ram c.step_hart.new.ram c.self.inside.changes.items c.note.new.changes.items
    c.self.inside.whole c.in-Some.change c.self.invariant (c.note.ensures.noted yes) c.in-Some.ensures.within
    c.in-Some.ensures.back
