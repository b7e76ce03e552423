use Rattle.std.proofs.Common.{◌≡◌, ◌+◌, ◌<◌, ℕ, List, length, arith, ap, sym, ◌∙◌, subst}
use Rattle.std.specs.Prelude.{Some, option_map, true, slice_get, slice_index_or, slice_set}
use Rattle.std.proofs.lemmas.Option.{slice_get-get_or, slice_get_within}
use Rattle.cheri_model.specs.runs.Machine as machine
use Rattle.state_store.specs.Stores.{memory_at}
use Rattle.state_store.proofs.SeenLemmas.{seen_granule}
use Rattle.state_store.proofs.StoreLemmas.{memory_at_kept}
use Rattle.graph_search.specs.Graphs.{LeadsTo}
use Rattle.states.specs.Graphs.{GraphParts, IsGraph, state_in, rests_in, rest_in, turn_in}
use Rattle.states.specs.Locals.{local_value}
use Rattle.states.proofs.KeepLemmas.{granules_some, granules_few}
use Rattle.states.proofs.GraphLemmas.{next_of_stopped}
use Rattle.states.proofs.NodeLemmas.{some_state, node_of, is_some, site_there, site_of_stopped, ready, continues_on, node_rests}
use Rattle.states.proofs.EdgeLemmas.{step_leads, step_writes}
use Rattle.states.proofs.graph.MachineGraph.step_hart.Goals as goal

pub bounds-node-place : goal.bounds-node-place
bounds-node-place c =
    let s = some_state c.args.self.now c.args.node.now c.requires.meant in
    let width = (node_of c.args.self.now c.args.node.now s.0 s.1).width in
    let there = c.requires.there in
    omega arith

pub index-site-requires : goal.index-site-requires
index-site-requires c =
    let g : GraphParts = c.args.self.now in
    let inv = subst (λ (p : GraphParts). IsGraph p.image p.sweeps p.sight p.store c.self.inside.sites.items c.self.inside.steps c.self.inside.ram c.self.inside.row.items) c.self.view_is c.self.invariant in
    let some = granules_some g.image g.sweeps g.sight g.store c.self.inside.sites.items c.self.inside.steps
    c.self.inside.ram c.self.inside.row.items inv in
    let s = some_state g c.args.node.now c.requires.meant in
    let node = node_of g c.args.node.now s.0 s.1 in
    let within = (site_there g.image.program (rests_in g) g.store c.self.inside.sites.items c.self.inside.steps
    (slice_index_or c.args.node.now (c.args.hart + 1) 0) (machine.hart_at s.0 c.args.hart) inv.tabled
    (node.hart c.args.hart c.requires.there)).0 in
    omega (arith, within, c.self.inside.sites.ok.0)

pub returns-then-site-clause-value : goal.returns-then-site-clause-value
returns-then-site-clause-value c s is =
    let g : GraphParts = c.args.self.now in
    let inv = subst (λ (p : GraphParts). IsGraph p.image p.sweeps p.sight p.store c.self.inside.sites.items c.self.inside.steps c.self.inside.ram c.self.inside.row.items) c.self.view_is c.self.invariant in
    let some = granules_some g.image g.sweeps g.sight g.store c.self.inside.sites.items c.self.inside.steps
    c.self.inside.ram c.self.inside.row.items inv in
    let few = granules_few g.image g.sweeps g.sight g.store c.self.inside.sites.items c.self.inside.steps
    c.self.inside.ram c.self.inside.row.items inv in
    let node = node_of g c.args.node.now s is in
    let at = c.index-site.ensures ∙ (site_there g.image.program (rests_in g) g.store c.self.inside.sites.items c.self.inside.steps (slice_index_or c.args.node.now (c.args.hart + 1) 0) (machine.hart_at s c.args.hart) inv.tabled
    (node.hart c.args.hart c.requires.there)).1 c.index-site.result.now in
    ap (option_map (rest_in g)) (next_of_stopped g.image g.sweeps s c.args.hart c.requires.there
    (site_of_stopped g.image.program g.store.granules (machine.hart_at s c.args.hart) c.index-site.result.now at some few
    c.if-site.true))

pub bounds-node-0 : goal.bounds-node-0
bounds-node-0 c =
    let s = some_state c.args.self.now c.args.node.now c.requires.meant in
    let width = (node_of c.args.self.now c.args.node.now s.0 s.1).width in
    let some : 0 < length c.args.node.now = omega arith in
    some

pub memory-row-requires : goal.memory-row-requires
memory-row-requires c =
    let g : GraphParts = c.args.self.now in
    let s = some_state g c.args.node.now c.requires.meant in
    let node = node_of g c.args.node.now s.0 s.1 in
    is_some (memory_at c.self.inside.store (slice_index_or c.args.node.now 0 0)) s.0.memory
    (ap (λ (p : GraphParts). memory_at p.store (slice_index_or c.args.node.now 0 0)) c.self.view_is ∙ node.memory)

pub bounds-row-site : goal.bounds-row-site
bounds-row-site c =
    let g : GraphParts = c.args.self.now in
    let inv = subst (λ (p : GraphParts). IsGraph p.image p.sweeps p.sight p.store c.self.inside.sites.items c.self.inside.steps c.self.inside.ram c.self.inside.row.items) c.self.view_is c.self.invariant in
    let some = granules_some g.image g.sweeps g.sight g.store c.self.inside.sites.items c.self.inside.steps
    c.self.inside.ram c.self.inside.row.items inv in
    let s = some_state g c.args.node.now c.requires.meant in
    let r = ready g c.self.inside.sites.items c.self.inside.steps c.args.node.now s.0 c.args.hart
    c.index-site.result.now inv.tabled some s.1 c.requires.there c.index-site.ensures c.if-site.false in
    let low = r.within in
    let wide = c.memory-row.ensures.wide in
    let granules : c.self.inside.store.granules ≡ g.store.granules = ap (λ (p : GraphParts). p.store.granules) c.self.view_is in
    let below : c.index-site.result.now < length c.memory-row.result.now = omega arith in
    below

pub bounds-node-place-2 : goal.bounds-node-place-2
bounds-node-place-2 c =
    let s = some_state c.args.self.now c.args.node.now c.requires.meant in
    let width = (node_of c.args.self.now c.args.node.now s.0 s.1).width in
    let there = c.requires.there in
    omega arith

pub local_step-requires-clause-hart : goal.local_step-requires-clause-hart
local_step-requires-clause-hart c =
    let g : GraphParts = c.args.self.now in
    let inv = subst (λ (p : GraphParts). IsGraph p.image p.sweeps p.sight p.store c.self.inside.sites.items c.self.inside.steps c.self.inside.ram c.self.inside.row.items) c.self.view_is c.self.invariant in
    let some = granules_some g.image g.sweeps g.sight g.store c.self.inside.sites.items c.self.inside.steps
    c.self.inside.ram c.self.inside.row.items inv in
    let s = some_state g c.args.node.now c.requires.meant in
    let r = ready g c.self.inside.sites.items c.self.inside.steps c.args.node.now s.0 c.args.hart
    c.index-site.result.now inv.tabled some s.1 c.requires.there c.index-site.ensures c.if-site.false in
    (machine.hart_at s.0 c.args.hart, r.hart, r.runs)

pub local_step-requires-clause-value : goal.local_step-requires-clause-value
local_step-requires-clause-value c =
    let g : GraphParts = c.args.self.now in
    let inv = subst (λ (p : GraphParts). IsGraph p.image p.sweeps p.sight p.store c.self.inside.sites.items c.self.inside.steps c.self.inside.ram c.self.inside.row.items) c.self.view_is c.self.invariant in
    let some = granules_some g.image g.sweeps g.sight g.store c.self.inside.sites.items c.self.inside.steps
    c.self.inside.ram c.self.inside.row.items inv in
    let s = some_state g c.args.node.now c.requires.meant in
    let r = ready g c.self.inside.sites.items c.self.inside.steps c.args.node.now s.0 c.args.hart
    c.index-site.result.now inv.tabled some s.1 c.requires.there c.index-site.ensures c.if-site.false in
    let low = r.within in
    let wide = c.memory-row.ensures.wide in
    let granules : c.self.inside.store.granules ≡ g.store.granules = ap (λ (p : GraphParts). p.store.granules) c.self.view_is in
    let below : c.index-site.result.now < length c.memory-row.result.now = omega arith in
    let row_there : slice_get g.store.memories (slice_index_or c.args.node.now 0 0) ≡ Some c.memory-row.result.now =
    ap (λ (p : GraphParts). slice_get p.store.memories (slice_index_or c.args.node.now 0 0)) (sym c.self.view_is)
    ∙ c.memory-row.ensures.row in
    (seen_granule g.store (slice_index_or c.args.node.now 0 0) c.memory-row.result.now s.0.memory c.index-site.result.now
    r.memory row_there below).0

pub copy_from_slice-requires : goal.copy_from_slice-requires
copy_from_slice-requires c =
    let s = some_state c.args.self.now c.args.node.now c.requires.meant in
    c.requires.room ∙ sym (node_of c.args.self.now c.args.node.now s.0 s.1).width

pub returns-then-after-value-clause-value : goal.returns-then-after-value-clause-value
returns-then-after-value-clause-value c s is =
    let g : GraphParts = c.args.self.now in
    let inv = subst (λ (p : GraphParts). IsGraph p.image p.sweeps p.sight p.store c.self.inside.sites.items c.self.inside.steps c.self.inside.ram c.self.inside.row.items) c.self.view_is c.self.invariant in
    let some = granules_some g.image g.sweeps g.sight g.store c.self.inside.sites.items c.self.inside.steps
    c.self.inside.ram c.self.inside.row.items inv in
    let r = ready g c.self.inside.sites.items c.self.inside.steps c.args.node.now s c.args.hart
    c.index-site.result.now inv.tabled some is c.requires.there c.index-site.ensures c.if-site.false in
    let low = r.within in
    let wide = c.memory-row.ensures.wide in
    let granules : c.self.inside.store.granules ≡ g.store.granules = ap (λ (p : GraphParts). p.store.granules) c.self.view_is in
    let below : c.index-site.result.now < length c.memory-row.result.now = omega arith in
    let row_there : slice_get g.store.memories (slice_index_or c.args.node.now 0 0) ≡ Some c.memory-row.result.now =
    ap (λ (p : GraphParts). slice_get p.store.memories (slice_index_or c.args.node.now 0 0)) (sym c.self.view_is)
    ∙ c.memory-row.ensures.row in
    subst (λ (row : List ℕ). LeadsTo (state_in c.local_step.new.self) true (slice_set row (c.args.hart + 1) c.in_ok-after.after.hart)
    (turn_in g s c.args.hart)) (sym c.copy_from_slice.ensures.after)
    (step_leads g c.local_step.new.self c.local_step.ensures.continues some c.args.node.now c.memory-row.result.now s is c.args.hart
    c.index-site.result.now (slice_index_or c.memory-row.result.now c.index-site.result.now 0) c.requires.there r.runs row_there
    r.touches (slice_get-get_or c.memory-row.result.now c.index-site.result.now 0 below) c.in_ok-after.after
    c.in_ok-after.ensures.step
    (node_rests g c.self.inside.sites.items c.self.inside.steps c.args.node.now s inv.tabled is)
    c.if-after-value.true)

pub memory_with-requires-clause-memory : goal.memory_with-requires-clause-memory
memory_with-requires-clause-memory c =
    let g : GraphParts = c.args.self.now in
    let s = some_state g c.args.node.now c.requires.meant in
    is_some (memory_at c.local_step.new.self.store (slice_index_or c.args.node.now 0 0)) s.0.memory
    (memory_at_kept g.store c.local_step.new.self.store c.local_step.ensures.continues.keeps (slice_index_or c.args.node.now 0 0)
    s.0.memory (node_of g c.args.node.now s.0 s.1).memory)

pub memory_with-requires-clause-granule : goal.memory_with-requires-clause-granule
memory_with-requires-clause-granule c =
    let g : GraphParts = c.args.self.now in
    let inv = subst (λ (p : GraphParts). IsGraph p.image p.sweeps p.sight p.store c.self.inside.sites.items c.self.inside.steps c.self.inside.ram c.self.inside.row.items) c.self.view_is c.self.invariant in
    let some = granules_some g.image g.sweeps g.sight g.store c.self.inside.sites.items c.self.inside.steps
    c.self.inside.ram c.self.inside.row.items inv in
    let s = some_state g c.args.node.now c.requires.meant in
    let r = ready g c.self.inside.sites.items c.self.inside.steps c.args.node.now s.0 c.args.hart
    c.index-site.result.now inv.tabled some s.1 c.requires.there c.index-site.ensures c.if-site.false in
    subst (λ (n : ℕ). c.index-site.result.now < n) (sym c.local_step.ensures.continues.keeps.granules) r.within

pub memory_with-requires-clause-value : goal.memory_with-requires-clause-value
memory_with-requires-clause-value c =
    let step = c.in_ok-after.ensures.step in
    slice_get_within c.local_step.new.self.store.values c.in_ok-after.after.value
    (local_value c.args.self.now.image.program c.local_step.new.self.store.granules step.before step.granule) step.value_after

pub returns : goal.returns
returns c =
    let g : GraphParts = c.args.self.now in
    let inv = subst (λ (p : GraphParts). IsGraph p.image p.sweeps p.sight p.store c.self.inside.sites.items c.self.inside.steps c.self.inside.ram c.self.inside.row.items) c.self.view_is c.self.invariant in
    let some = granules_some g.image g.sweeps g.sight g.store c.self.inside.sites.items c.self.inside.steps
    c.self.inside.ram c.self.inside.row.items inv in
    record {
      continues = continues_on g c.local_step.new.self c.memory_with.new.self c.local_step.ensures.continues
          c.memory_with.ensures.continues;
      value = λ s is.
          let r = ready g c.self.inside.sites.items c.self.inside.steps c.args.node.now s c.args.hart
          c.index-site.result.now inv.tabled some is c.requires.there c.index-site.ensures c.if-site.false in
          let low = r.within in
          let wide = c.memory-row.ensures.wide in
          let granules : c.self.inside.store.granules ≡ g.store.granules = ap (λ (p : GraphParts). p.store.granules) c.self.view_is in
          let below : c.index-site.result.now < length c.memory-row.result.now = omega arith in
          let row_there : slice_get g.store.memories (slice_index_or c.args.node.now 0 0) ≡ Some c.memory-row.result.now =
          ap (λ (p : GraphParts). slice_get p.store.memories (slice_index_or c.args.node.now 0 0)) (sym c.self.view_is)
          ∙ c.memory-row.ensures.row in
          subst (λ (row : List ℕ). LeadsTo (state_in c.memory_with.new.self) true
          (slice_set (slice_set row (c.args.hart + 1) c.in_ok-after.after.hart) 0 c.in_ok-memory.memory)
          (turn_in g s c.args.hart)) (sym c.copy_from_slice.ensures.after)
          (step_writes g c.local_step.new.self c.local_step.ensures.continues some c.args.node.now c.memory-row.result.now s is c.args.hart
          c.index-site.result.now (slice_index_or c.memory-row.result.now c.index-site.result.now 0) c.requires.there r.runs row_there
          r.touches (slice_get-get_or c.memory-row.result.now c.index-site.result.now 0 below) c.in_ok-after.after
          c.in_ok-after.ensures.step
          (node_rests g c.self.inside.sites.items c.self.inside.steps c.args.node.now s inv.tabled is)
          c.memory_with.new.self
          c.memory_with.ensures.continues c.in_ok-memory.memory (λ m v known there. c.in_ok-memory.ensures.numbered m v known there));
    }
