use Rattle.std.proofs.Common.{subst}
use Rattle.state_store.specs.Stores.{Stored, IsOneRow}
use Rattle.state_store.proofs.StoreLemmas.{state_of_one}
use Rattle.state_store.proofs.store.Store.granules.Goals as goal

pub returns-clause-one_row : goal.returns-clause-one_row
returns-clause-one_row c =
    let view : Stored = record {
      values = c.self.inside.values;
      harts = c.self.inside.harts.rows;
      memories = c.self.inside.memories.rows;
      granules = c.self.inside.granules;
    } in
    subst (λ (s : Stored). IsOneRow s) c.self.view_is
    (state_of_one view c.len.ensures.distinct c.len-2.ensures.distinct c.len-3.ensures.distinct)
