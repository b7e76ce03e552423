use Rattle.std.proofs.Common.{◌≡◌, ℕ, List, length, arith, ap, sym, ◌∙◌, subst}
use Rattle.std.specs.Prelude.{Some, slice_get}
use Rattle.std.proofs.lemmas.Result.{IfOk-weaker}
use Rattle.cap_model.specs.values.CapValue.{CapValue}
use Rattle.cheri_model.specs.runs.Sweeps.{swept_memory}
use Rattle.state_store.specs.Numbered.{each}
use Rattle.state_store.specs.Stores.{memory_at}
use Rattle.state_store.proofs.NumberedLemmas.{some_of}
use Rattle.state_store.proofs.StoreLemmas.{keeps_on}
use Rattle.state_store.proofs.ViewLemmas.{row_of_memory}
use Rattle.states.specs.Graphs.{GraphParts, IsGraph}
use Rattle.states.proofs.KeepLemmas.{graph_stored}
use Rattle.states.proofs.NodeLemmas.{is_some}
use Rattle.states.proofs.RowLemmas.{row_back, memory_moved}
use Rattle.states.proofs.graph.MachineGraph.swept_memory.Goals as goal

pub sweep_row-requires : goal.sweep_row-requires
sweep_row-requires c =
    let m = some_of (memory_at c.args.self.now.store c.args.memory) c.requires in
    let there : memory_at c.self.inside.store c.args.memory ≡ Some m.0 =
    ap (λ (g : GraphParts). memory_at g.store c.args.memory) c.self.view_is ∙ m.1 in
    is_some (each (slice_get c.self.inside.store.values) c.as_mut_slice.result.now) m.0
    (ap (each (slice_get c.self.inside.store.values)) (c.as_mut_slice.ensures.value ∙ c.copy_from_slice.ensures.items)
    ∙ (row_of_memory c.self.inside.store c.args.memory c.memory.result.now m.0 there c.memory.ensures.row).1)

pub invariant_of-self : goal.invariant_of-self
invariant_of-self c =
    let value = c.as_mut_slice.ensures.value in
    let whole : length c.as_mut_slice.result.now ≡ length c.copy_from_slice.new.self.items =
    ap (λ (l : List ℕ). length l) c.as_mut_slice.ensures.value in
    let size = c.sweep_row.ensures.size in
    let count : c.copy_from_slice.new.self.len ≡ length c.sweep_row.new.row = omega (arith, c.copy_from_slice.new.self.ok.0) in
    let back = row_back c.copy_from_slice.new.self.len c.sweep_row.new.row c.copy_from_slice.new.self.items count in
    let copied : length c.copy_from_slice.new.self.items ≡ length c.memory.result.now =
    ap (λ (l : List ℕ). length l) c.copy_from_slice.ensures.items in
    let wide = c.memory.ensures.wide in
    let rows = c.self.invariant.row_size in
    let same : length c.sweep_row.new.row ≡ length c.self.inside.row.items = omega arith in
    subst (λ (l : List ℕ). IsGraph c.self.inside.image c.self.inside.sweeps.items c.self.inside.sight c.sweep_row.new.store c.self.inside.sites.items
    c.self.inside.steps c.self.inside.ram l) (sym back)
    (graph_stored c.self.inside.image c.self.inside.sweeps.items c.self.inside.sight c.self.inside.store c.self.inside.sites.items
    c.self.inside.steps c.self.inside.ram c.self.inside.row.items c.self.invariant c.sweep_row.new.store c.sweep_row.new.row c.sweep_row.ensures.kept
    (ap (λ (l : List (List ℕ)). length l) c.sweep_row.ensures.same_harts) same)

pub invariant_of-self-2 : goal.invariant_of-self-2
invariant_of-self-2 c =
    let value = c.as_mut_slice.ensures.value in
    let whole : length c.as_mut_slice.result.now ≡ length c.copy_from_slice.new.self.items =
    ap (λ (l : List ℕ). length l) c.as_mut_slice.ensures.value in
    let size = c.sweep_row.ensures.size in
    let count : c.copy_from_slice.new.self.len ≡ length c.sweep_row.new.row = omega (arith, c.copy_from_slice.new.self.ok.0) in
    let back = row_back c.copy_from_slice.new.self.len c.sweep_row.new.row c.copy_from_slice.new.self.items count in
    let copied : length c.copy_from_slice.new.self.items ≡ length c.memory.result.now =
    ap (λ (l : List ℕ). length l) c.copy_from_slice.ensures.items in
    let wide = c.memory.ensures.wide in
    let rows = c.self.invariant.row_size in
    let same : length c.sweep_row.new.row ≡ length c.self.inside.row.items = omega arith in
    subst (λ (l : List ℕ). IsGraph c.self.inside.image c.self.inside.sweeps.items c.self.inside.sight c.number_row.new.self c.self.inside.sites.items
    c.self.inside.steps c.self.inside.ram l) (sym back)
    (graph_stored c.self.inside.image c.self.inside.sweeps.items c.self.inside.sight c.self.inside.store c.self.inside.sites.items
    c.self.inside.steps c.self.inside.ram c.self.inside.row.items c.self.invariant c.number_row.new.self c.sweep_row.new.row
    (keeps_on c.self.inside.store c.sweep_row.new.store c.number_row.new.self c.sweep_row.ensures.kept c.number_row.ensures.kept)
    (ap (λ (l : List (List ℕ)). length l) (c.number_row.ensures.same_harts ∙ c.sweep_row.ensures.same_harts)) same)

pub returns-clause-numbered : goal.returns-clause-numbered
returns-clause-numbered c =
    let value = c.as_mut_slice.ensures.value in
    let whole : length c.as_mut_slice.result.now ≡ length c.copy_from_slice.new.self.items =
    ap (λ (l : List ℕ). length l) c.as_mut_slice.ensures.value in
    let size = c.sweep_row.ensures.size in
    let count : c.copy_from_slice.new.self.len ≡ length c.sweep_row.new.row = omega (arith, c.copy_from_slice.new.self.ok.0) in
    let back = row_back c.copy_from_slice.new.self.len c.sweep_row.new.row c.copy_from_slice.new.self.items count in
    let copied : length c.copy_from_slice.new.self.items ≡ length c.memory.result.now =
    ap (λ (l : List ℕ). length l) c.copy_from_slice.ensures.items in
    let wide = c.memory.ensures.wide in
    let rows = c.self.invariant.row_size in
    let same : length c.sweep_row.new.row ≡ length c.self.inside.row.items = omega arith in
    let from : length c.sweep_row.new.row ≡ length c.memory.result.now = omega arith in
    IfOk-weaker c.number_row.result (λ (id : ℕ). slice_get c.number_row.new.self.memories id ≡ Some c.as_slice.result.now)
    (λ (id : ℕ). (m : List CapValue) → memory_at c.args.self.now.store c.args.memory ≡ Some m →
    memory_at c.number_row.new.self id ≡ Some (swept_memory c.args.range.lo c.args.range.hi m))
    (λ id left m is.
    let there : memory_at c.self.inside.store c.args.memory ≡ Some m =
    ap (λ (g : GraphParts). memory_at g.store c.args.memory) c.self.view_is ∙ is in
    memory_moved c.self.inside.store c.sweep_row.new.store c.number_row.new.self c.sweep_row.ensures.kept c.number_row.ensures.kept
    c.number_row.ensures.same_values c.args.memory id c.memory.result.now c.sweep_row.new.row m
    (swept_memory c.args.range.lo c.args.range.hi m) c.memory.ensures.row there from
    (c.in_ok-sweep_row.ensures.swept m
    (ap (each (slice_get c.self.inside.store.values)) (c.as_mut_slice.ensures.value ∙ c.copy_from_slice.ensures.items)
    ∙ (row_of_memory c.self.inside.store c.args.memory c.memory.result.now m there c.memory.ensures.row).1))
    (left ∙ ap (λ (l : List ℕ). Some l) (c.as_slice.ensures.value ∙ back)))
    c.number_row.ensures.numbered
