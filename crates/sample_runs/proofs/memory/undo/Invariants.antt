use Rattle.std.proofs.Common.{◌≡◌, ◌<◌, All, length}
use Rattle.sample_steps.specs.declared.writes.Change.{Change}
use Rattle.sample_runs.specs.Memories.{undone}
use Rattle.sample_runs.proofs.memory.undo.Given as goal

-- the changes that are left lead back
abbrev pub invariant-loop-change : goal.invariant-loop-change
invariant-loop-change l = record {
  within : All (λ (c : Change). c.granule < length l.ram) l.changes.items;
  ram : undone l.changes.items l.ram ≡ undone l.fn.changes.items l.fn.ram;
}

abbrev pub decreases-loop-change : goal.decreases-loop-change
decreases-loop-change l = length l.changes.items
