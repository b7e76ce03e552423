use Rattle.std.proofs.Common.{sym, subst, refl, ◌∙◌, ap, ◌<◌, length, arith, ℕ}
use Rattle.std.specs.Prelude.{Option, IsSome, slice_index_or, List, Some}
use Rattle.std.proofs.lemmas.Option.{same_Some}
use Rattle.cap_model.specs.values.CapValue.{CapValue}
use Rattle.cheri_model.specs.steps.Memory.{granule_at}
use Rattle.state_store.specs.Stores.{state_of}
use Rattle.state_store.proofs.NumberedLemmas.{some_of}
use Rattle.state_store.proofs.SeenLemmas.{seen_memory, seen_granule}
use Rattle.state_store.proofs.view.State.granule.Goals as goal

pub bounds-self-0 : goal.bounds-self-0
bounds-self-0 c =
    let s = some_of (state_of c.args.self.store.now c.args.self.row.now) c.requires.state in
    (seen_memory c.args.self.store.now c.args.self.row.now s.0 s.1).0

pub memory-row-requires : goal.memory-row-requires
memory-row-requires c =
    let s = some_of (state_of c.args.self.store.now c.args.self.row.now) c.requires.state in
    subst (λ (o : Option (List CapValue)). IsSome o)
    (sym (seen_memory c.args.self.store.now c.args.self.row.now s.0 s.1).1) refl

pub value-requires : goal.value-requires
value-requires c =
    let s = some_of (state_of c.args.self.store.now c.args.self.row.now) c.requires.state in
    let within : c.args.number < length c.memory-row.result.now = subst (λ (n : ℕ). c.args.number < n) (sym c.memory-row.ensures.wide) c.requires.granule in
    (seen_granule c.args.self.store.now (slice_index_or c.args.self.row.now 0 0) c.memory-row.result.now s.0.memory c.args.number
    (seen_memory c.args.self.store.now c.args.self.row.now s.0 s.1).1 c.memory-row.ensures.row within).0

pub returns : goal.returns
returns c s is =
    let within : c.args.number < length c.memory-row.result.now = subst (λ (n : ℕ). c.args.number < n) (sym c.memory-row.ensures.wide) c.requires.granule in
    let seen = seen_granule c.args.self.store.now (slice_index_or c.args.self.row.now 0 0) c.memory-row.result.now s.memory c.args.number
    (seen_memory c.args.self.store.now c.args.self.row.now s is).1 c.memory-row.ensures.row within in
    c.of_value.ensures ∙ same_Some c.value.result (granule_at s.memory c.args.number) (sym c.value.ensures ∙ seen.1)
