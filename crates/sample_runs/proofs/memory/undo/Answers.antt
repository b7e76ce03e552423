use Rattle.std.proofs.Common.{◌≡◌, length, sym, ◌∙◌, arith}
use Rattle.sample_runs.proofs.MemoryLemmas.{one_undone, none_undone}
use Rattle.sample_runs.proofs.memory.undo.Goals as goal

pub loop-change-preserved : goal.loop-change-preserved
loop-change-preserved c =
    let one = one_undone c.loop-change.changes.items c.pop.new.self.items c.in-Some.change c.loop-change.ram
    c.put_granule.new.ram c.in-Some.ensures.items c.put_granule.ensures c.loop-change.invariant.within in
    record { within = one.within; ram = one.back ∙ c.loop-change.invariant.ram }

pub returns-clause-memory : goal.returns-clause-memory
returns-clause-memory c =
    let none : length c.loop-change.changes.items ≡ 0 = omega (arith, c.in_default.ensures.cases.0, c.loop-change.changes.ok.0) in
    sym (none_undone c.loop-change.changes.items c.loop-change.ram none) ∙ c.loop-change.invariant.ram
