use Rattle.std.proofs.Common.{sym, subst, refl, ◌∙◌}
use Rattle.std.specs.Prelude.{Option, IsSome, slice_index_or, List}
use Rattle.cap_model.specs.values.CapValue.{CapValue}
use Rattle.state_store.specs.Stores.{state_of}
use Rattle.state_store.proofs.NumberedLemmas.{some_of}
use Rattle.state_store.proofs.SeenLemmas.{seen_memory, seen_size}
use Rattle.state_store.proofs.view.State.granule_count.Goals as goal

pub bounds-self-0 : goal.bounds-self-0
bounds-self-0 c =
    let s = some_of (state_of c.args.self.store.now c.args.self.row.now) c.requires in
    (seen_memory c.args.self.store.now c.args.self.row.now s.0 s.1).0

pub memory-requires : goal.memory-requires
memory-requires c =
    let s = some_of (state_of c.args.self.store.now c.args.self.row.now) c.requires in
    subst (λ (o : Option (List CapValue)). IsSome o)
    (sym (seen_memory c.args.self.store.now c.args.self.row.now s.0 s.1).1) refl

pub returns : goal.returns
returns c s is =
    seen_size c.args.self.store.now (slice_index_or c.args.self.row.now 0 0) c.memory.result.now s.memory
    (seen_memory c.args.self.store.now c.args.self.row.now s is).1 c.memory.ensures.row
