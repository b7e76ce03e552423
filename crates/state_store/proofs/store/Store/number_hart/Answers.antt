use Rattle.std.proofs.Common.{ap, ◌∙◌, slice_get}
use Rattle.state_store.specs.Stores.{Stored}
use Rattle.state_store.proofs.NumberedLemmas.{interned_extends}
use Rattle.state_store.proofs.SeenLemmas.{hart_at_made}
use Rattle.state_store.proofs.store.Store.number_hart.Goals as goal

pub returns-clause-numbered : goal.returns-clause-numbered
returns-clause-numbered c =
    hart_at_made _ c.in_ok-id.id c.in_ok-row.row c.args.hart.now c.in_ok-id.ensures.interned.0 c.in_ok-row.ensures.row

pub returns-clause-kept : goal.returns-clause-kept
returns-clause-kept c = record {
  values = λ i x is. c.row_of_hart.ensures.kept i x (ap (λ (s : Stored). slice_get s.values i) c.self.view_is ∙ is);
  harts = λ i x is. interned_extends c.self.inside.harts c.insert.new.self c.in_ok-row.row c.in_ok-id.id
      c.in_ok-id.ensures.interned i x (ap (λ (s : Stored). slice_get s.harts i) c.self.view_is ∙ is);
  memories = λ i x is. ap (λ (s : Stored). slice_get s.memories i) c.self.view_is ∙ is;
  granules = ap (λ (s : Stored). s.granules) c.self.view_is;
}
