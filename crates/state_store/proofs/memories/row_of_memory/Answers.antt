use Rattle.std.proofs.Common.{◌≡◌, ◌<◌, ℕ, length, arith}
use Rattle.state_store.proofs.SeenLemmas.{memory_row_made}
use Rattle.state_store.proofs.memories.row_of_memory.Goals as goal

pub returns-clause-row : goal.returns-clause-row
returns-clause-row c =
    let inv = c.loop-number.invariant in
    let same : length c.loop-number.row.items ≡ length c.args.ram.now = omega arith in
    memory_row_made c.loop-number.values c.loop-number.row.items c.args.ram.now same
    (λ k below. inv.granules k (let low : k < c.loop-number.number = omega arith in low))
