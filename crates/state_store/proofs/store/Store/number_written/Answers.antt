use Rattle.std.proofs.Common.{◌≡◌, ℕ, List, length, ap, sym, ◌∙◌, slice_get, Some}
use Rattle.state_store.specs.Stores.{Stored}
use Rattle.state_store.proofs.SeenLemmas.{memory_there, memory_wide}
use Rattle.state_store.proofs.store.Store.number_written.Goals as goal

pub insert_written-requires-clause-row : goal.insert_written-requires-clause-row
insert_written-requires-clause-row c =
    let r = memory_there c.args.self.now c.args.memory c.requires.memory in
    let wide = memory_wide c.args.self.now c.args.memory r.0 c.requires.memory r.2 in (
      r.0,
      ap (λ (s : Stored). slice_get s.memories c.args.memory) c.self.view_is ∙ r.2,
      wide ∙ (ap (λ (s : Stored). s.granules) (sym c.self.view_is) ∙ sym c.self.invariant.memory_width),
    )
