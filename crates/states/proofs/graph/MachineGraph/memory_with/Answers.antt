use Rattle.std.proofs.Common.{◌≡◌, ℕ, List, length, ap, ◌∙◌, refl}
use Rattle.std.specs.Prelude.{Some, slice_get, slice_set}
use Rattle.std.proofs.lemmas.Result.{IfOk-weaker}
use Rattle.cap_model.specs.values.CapValue.{CapValue}
use Rattle.state_store.specs.Stores.{memory_at}
use Rattle.state_store.proofs.SeenLemmas.{memory_there}
use Rattle.states.specs.Graphs.{GraphParts}
use Rattle.states.proofs.KeepLemmas.{graph_stored}
use Rattle.states.proofs.RowLemmas.{memory_changed}
use Rattle.states.proofs.graph.MachineGraph.memory_with.Goals as goal

pub invariant_of-self : goal.invariant_of-self
invariant_of-self c =
    graph_stored c.self.inside.image c.self.inside.sweeps.items c.self.inside.sight c.self.inside.store c.self.inside.sites.items
    c.self.inside.steps c.self.inside.ram c.self.inside.row.items c.self.invariant
    c.number_written.new.self c.self.inside.row.items c.number_written.ensures.kept
    (ap (λ (l : List (List ℕ)). length l) c.number_written.ensures.same_harts) refl

pub returns-clause-numbered : goal.returns-clause-numbered
returns-clause-numbered c =
    let there = memory_there c.args.self.now.store c.args.memory c.requires.memory in
    let row : List ℕ = there.0 in
    let at : slice_get c.self.inside.store.memories c.args.memory ≡ Some row =
    ap (λ (g : GraphParts). slice_get g.store.memories c.args.memory) c.self.view_is ∙ there.2 in
    IfOk-weaker c.number_written.result (λ (id : ℕ). (r : List ℕ) →
    slice_get c.self.inside.store.memories c.args.memory ≡ Some r →
    slice_get c.number_written.new.self.memories id ≡ Some (slice_set r c.args.granule c.args.value))
    (λ (id : ℕ). (m : List CapValue) (v : CapValue) → memory_at c.args.self.now.store c.args.memory ≡ Some m →
    slice_get c.args.self.now.store.values c.args.value ≡ Some v →
    memory_at c.number_written.new.self id ≡ Some (slice_set m c.args.granule v))
    (λ id left m v is known.
    memory_changed c.self.inside.store c.number_written.new.self c.number_written.ensures.kept c.args.memory id
    c.args.granule c.args.value row m v at
    (ap (λ (g : GraphParts). memory_at g.store c.args.memory) c.self.view_is ∙ is)
    (ap (λ (g : GraphParts). slice_get g.store.values c.args.value) c.self.view_is ∙ known) (left row at))
    c.number_written.ensures.numbered
