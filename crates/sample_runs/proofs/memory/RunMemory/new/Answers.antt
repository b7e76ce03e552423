use Rattle.std.proofs.Common.{false, sym, ◌∙◌}
use Rattle.sample_runs.proofs.MemoryLemmas.{as_at_first}
use Rattle.sample_runs.proofs.memory.RunMemory.new.Goals as goal

pub invariant_of-result : goal.invariant_of-result
invariant_of-result c =
    as_at_first c.in_ok-opening.opening c.in_ok-ram.ram c.new.result.items false
    (c.in_ok-ram.ensures ∙ sym c.in_ok-opening.ensures) c.new.ensures.items
