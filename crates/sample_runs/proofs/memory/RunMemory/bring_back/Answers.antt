use Rattle.std.proofs.Common.{◌≡◌, false, rules, ◌∙◌}
use Rattle.sample_runs.proofs.MemoryLemmas.{as_at_first}
use Rattle.sample_runs.proofs.memory.RunMemory.bring_back.Goals as goal

pub invariant_of-self : goal.invariant_of-self
invariant_of-self c =
    let known : c.self.inside.whole ≡ false = search rules in
    as_at_first c.self.inside.opening c.undo.new.ram c.undo.new.changes.items c.self.inside.whole
    (c.undo.ensures.memory ∙ c.self.invariant.back known) c.undo.ensures.none

pub invariant_of-self-2 : goal.invariant_of-self-2
invariant_of-self-2 c =
    as_at_first c.self.inside.opening c.in_ok-self-inside.field-0 c.clear.new.self.items false
    c.in_ok-self-inside.ensures c.clear.ensures.items
