use Rattle.std.proofs.Common.{ap, sym, ◌∙◌, slice_get}
use Rattle.std.proofs.lemmas.Option.{none-some}
use Rattle.state_store.specs.Stores.{Stored}
use Rattle.state_store.proofs.SeenLemmas.{memory_there, memory_wide}
use Rattle.state_store.proofs.store.Store.memory.Goals as goal

pub unreachable-requires : goal.unreachable-requires
unreachable-requires c =
    let r = memory_there c.args.self.now c.args.id c.requires in
    none-some r.0 (c.in_default.ensures {u = tt} ∙ (ap (λ (s : Stored). slice_get s.memories c.args.id) c.self.view_is ∙ r.2))

pub returns-clause-wide : goal.returns-clause-wide
returns-clause-wide c =
    memory_wide c.args.self.now c.args.id c.in-Some.row.now c.requires
    (sym (ap (λ (s : Stored). slice_get s.memories c.args.id) c.self.view_is) ∙ sym c.in-Some.ensures)
