use Rattle.std.proofs.Common.{ap, sym, ◌∙◌, slice_get, subst, ◌≡◌, Some}
use Rattle.std.specs.Prelude.{IsSome}
use Rattle.std.proofs.lemmas.Option.{none-some}
use Rattle.cheri_model.specs.steps.Hart.{HartState}
use Rattle.state_store.specs.Stores.{Stored, hart_at}
use Rattle.state_store.proofs.SeenLemmas.{hart_there, hart_row_there, hart_at_made}
use Rattle.state_store.proofs.store.Store.load_hart.Goals as goal

pub unreachable-requires : goal.unreachable-requires
unreachable-requires c =
    let r = hart_there c.args.self.now c.args.id c.requires in
    none-some r.0 (c.in_default.ensures {u = tt} ∙ (ap (λ (s : Stored). slice_get s.harts c.args.id) c.self.view_is ∙ r.2))

pub load_hart-requires : goal.load_hart-requires
load_hart-requires c =
    let view : Stored = record {
      values = c.self.inside.values;
      harts = c.self.inside.harts.rows;
      memories = c.self.inside.memories.rows;
      granules = c.self.inside.granules;
    } in
    hart_row_there view c.args.id c.in-Some.row.now
    (subst (λ (s : Stored). IsSome (hart_at s c.args.id)) (sym c.self.view_is) c.requires) (sym c.in-Some.ensures)

pub returns : goal.returns
returns c =
    let view : Stored = record {
      values = c.self.inside.values;
      harts = c.self.inside.harts.rows;
      memories = c.self.inside.memories.rows;
      granules = c.self.inside.granules;
    } in
    subst (λ (s : Stored). hart_at s c.args.id ≡ Some c.load_hart.new.hart) c.self.view_is
    (hart_at_made view c.args.id c.in-Some.row.now c.load_hart.new.hart (sym c.in-Some.ensures) c.load_hart.ensures)
