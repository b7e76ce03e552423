-- A sweep that is not refused finds room in the trace, and leaves the core after it.
use Rattle.std.proofs.Common.{◌+◌, length, map, ap, ◌∙◌, arith}
use Rattle.std.specs.Prelude.{sum_by}
use Rattle.std.proofs.lemmas.List.{with_items_is}
use Rattle.cheri_model.specs.runs.Sweeps.{swept_hart, cleared_in_hart}
use Rattle.cores.proofs.CoreLemmas.{can_sweep, cleared_core}
use Rattle.cores.proofs.SweepLemmas.{granules_cleared, harts_are_few}
use Rattle.cores.proofs.cores.Core.clear.Goals as goal

pub sweep_harts-in_harts-requires : goal.sweep_harts-in_harts-requires
sweep_harts-in_harts-requires c =
    omega (arith, ap length c.deref_mut.ensures.value, harts_are_few _ c.self.invariant.0 c.granules-granules.ensures.formed)

pub overflow_add-event : goal.overflow_add-event
overflow_add-event c =
    let memory = c.self.inside.ram in
    let granules = granules_cleared c.args.lo c.args.hi memory in
    omega (arith, c.sweep_harts-in_harts.ensures.few, c.sweep-in_memory.ensures.cleared, granules, c.size-size.ensures, c.size-size.type_inv)

pub append-requires : goal.append-requires
append-requires c =
    omega (arith, (can_sweep _ _ c.args.lo c.args.hi c.self.view_is c.requires).room, c.self.invariant.1, c.self.inside.trace.ok.0)

pub invariant_of-self : goal.invariant_of-self
invariant_of-self c =
    let same = with_items_is c.self.inside.harts c.sweep_harts-in_harts.new.harts (c.sweep_harts-in_harts.auto.harts ∙ c.deref_mut.ensures.len) in
    let left = cleared_core _ _ c.args.lo c.args.hi _ _ _ c.self.view_is c.self.invariant.0 c.requires
    (same ∙ (c.sweep_harts-in_harts.ensures.harts ∙ ap (map (swept_hart c.args.lo c.args.hi)) c.deref_mut.ensures.value))
    c.sweep-in_memory.ensures.memory
    (λ i. (c.sweep_harts-in_harts.ensures.cleared ∙ ap (sum_by (cleared_in_hart c.args.lo c.args.hi)) c.deref_mut.ensures.value) i
    + c.sweep-in_memory.ensures.cleared i) in
    (rw c.append.ensures.items left.keeps, omega (arith, c.self.invariant.1, c.append.ensures.capacity))

pub returns-clause-event : goal.returns-clause-event
returns-clause-event c =
    let same = with_items_is c.self.inside.harts c.sweep_harts-in_harts.new.harts (c.sweep_harts-in_harts.auto.harts ∙ c.deref_mut.ensures.len) in
    let left = cleared_core _ _ c.args.lo c.args.hi _ _ _ c.self.view_is c.self.invariant.0 c.requires
    (same ∙ (c.sweep_harts-in_harts.ensures.harts ∙ ap (map (swept_hart c.args.lo c.args.hi)) c.deref_mut.ensures.value))
    c.sweep-in_memory.ensures.memory
    (λ i. (c.sweep_harts-in_harts.ensures.cleared ∙ ap (sum_by (cleared_in_hart c.args.lo c.args.hi)) c.deref_mut.ensures.value) i
    + c.sweep-in_memory.ensures.cleared i) in
    left.event_is

pub returns-clause-after : goal.returns-clause-after
returns-clause-after c =
    let same = with_items_is c.self.inside.harts c.sweep_harts-in_harts.new.harts (c.sweep_harts-in_harts.auto.harts ∙ c.deref_mut.ensures.len) in
    let left = cleared_core _ _ c.args.lo c.args.hi _ _ _ c.self.view_is c.self.invariant.0 c.requires
    (same ∙ (c.sweep_harts-in_harts.ensures.harts ∙ ap (map (swept_hart c.args.lo c.args.hi)) c.deref_mut.ensures.value))
    c.sweep-in_memory.ensures.memory
    (λ i. (c.sweep_harts-in_harts.ensures.cleared ∙ ap (sum_by (cleared_in_hart c.args.lo c.args.hi)) c.deref_mut.ensures.value) i
    + c.sweep-in_memory.ensures.cleared i) in
    rw c.append.ensures.items left.core_is

pub returns-clause-core : goal.returns-clause-core
returns-clause-core c =
    let same = with_items_is c.self.inside.harts c.sweep_harts-in_harts.new.harts (c.sweep_harts-in_harts.auto.harts ∙ c.deref_mut.ensures.len) in
    let left = cleared_core _ _ c.args.lo c.args.hi _ _ _ c.self.view_is c.self.invariant.0 c.requires
    (same ∙ (c.sweep_harts-in_harts.ensures.harts ∙ ap (map (swept_hart c.args.lo c.args.hi)) c.deref_mut.ensures.value))
    c.sweep-in_memory.ensures.memory
    (λ i. (c.sweep_harts-in_harts.ensures.cleared ∙ ap (sum_by (cleared_in_hart c.args.lo c.args.hi)) c.deref_mut.ensures.value) i
    + c.sweep-in_memory.ensures.cleared i) in
    rw c.append.ensures.items left.keeps
