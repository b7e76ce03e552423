use Rattle.state_store.proofs.MemoryLemmas.{writes_kept, rows_extend}
use Rattle.state_store.proofs.memories.Memories.insert.Goals as goal

pub invariant_of-self : goal.invariant_of-self
invariant_of-self c =
    writes_kept c.self.inside.rows.rows c.insert.new.self.rows c.self.inside.writes c.self.inside.after.items
    (rows_extend c.self.inside.rows c.insert.new.self c.args.row.now c.insert.result c.insert.ensures.interned
    c.insert.ensures.unchanged) c.self.invariant
