use Rattle.std.proofs.Common.{◌≡◌, ℕ, List, ap, sym, ◌∙◌, length, slice_get, Some}
use Rattle.state_store.specs.Stores.{Stored}
use Rattle.state_store.proofs.NumberedLemmas.{each_length, interned_extends}
use Rattle.state_store.proofs.SeenLemmas.{memory_at_made}
use Rattle.state_store.proofs.store.Store.number_memory.Goals as goal

pub insert-requires : goal.insert-requires
insert-requires c =
    ap length c.as_slice.ensures.value
    ∙ (each_length (slice_get c.row_of_memory.new.values) c.in_ok-row.row.items c.args.ram.now c.in_ok-row.ensures.row
    ∙ (c.requires ∙ (ap (λ (s : Stored). s.granules) (sym c.self.view_is) ∙ sym c.self.invariant.memory_width)))

pub returns-clause-numbered : goal.returns-clause-numbered
returns-clause-numbered c =
    memory_at_made _ c.in_ok-id.id c.in_ok-row.row.items c.args.ram.now
    (c.in_ok-id.ensures.interned.0 ∙ ap (λ (r : List ℕ). Some r) c.as_slice.ensures.value)
    (each_length (slice_get c.row_of_memory.new.values) c.in_ok-row.row.items c.args.ram.now c.in_ok-row.ensures.row
    ∙ (c.requires ∙ ap (λ (s : Stored). s.granules) (sym c.self.view_is)))
    c.in_ok-row.ensures.row

pub returns-clause-kept : goal.returns-clause-kept
returns-clause-kept c = record {
  values = λ i x is. c.row_of_memory.ensures.kept i x (ap (λ (s : Stored). slice_get s.values i) c.self.view_is ∙ is);
  harts = λ i x is. ap (λ (s : Stored). slice_get s.harts i) c.self.view_is ∙ is;
  memories = λ i x is. interned_extends c.self.inside.memories c.insert.new.self c.as_slice.result.now c.in_ok-id.id
      c.in_ok-id.ensures.interned i x (ap (λ (s : Stored). slice_get s.memories i) c.self.view_is ∙ is);
  granules = ap (λ (s : Stored). s.granules) c.self.view_is;
}
