use Rattle.std.proofs.Common.{ap, ◌∙◌, slice_get}
use Rattle.std.proofs.lemmas.Option.{none-some}
use Rattle.state_store.specs.Stores.{Stored}
use Rattle.state_store.proofs.SeenLemmas.{hart_there}
use Rattle.state_store.proofs.store.Store.hart.Goals as goal

pub unreachable-requires : goal.unreachable-requires
unreachable-requires c =
    let r = hart_there c.args.self.now c.args.id c.requires in
    none-some r.0 (c.in_default.ensures {u = tt} ∙ (ap (λ (s : Stored). slice_get s.harts c.args.id) c.self.view_is ∙ r.2))
