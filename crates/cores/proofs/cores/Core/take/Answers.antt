-- A step that is not refused finds its hart and room in the trace, and leaves the core after it.
use Rattle.std.proofs.Common.{arith}
use Rattle.cores.proofs.CoreLemmas.{can_step, took}
use Rattle.cores.proofs.cores.Core.take.Goals as goal

pub index_mut-place-requires : goal.index_mut-place-requires
index_mut-place-requires c =
    omega (arith, (can_step _ _ c.args.hart c.self.view_is c.requires).there, c.from.ensures, c.self.inside.harts.ok.0)

pub append-requires : goal.append-requires
append-requires c =
    omega (arith, (can_step _ _ c.args.hart c.self.view_is c.requires).room, c.self.invariant.1, c.self.inside.trace.ok.0)

pub invariant_of-self : goal.invariant_of-self
invariant_of-self c =
    let t = took _ _ c.args.hart c.from.result _ c.index_mut-place.result.now _ _ _ c.self.view_is c.self.invariant.0 c.requires c.from.ensures c.program-program.ensures c.index_mut-place.ensures.value (record { hart = c.step_hart-entry.ensures.hart; ram = c.step_hart-entry.ensures.memory; entry = c.step_hart-entry.ensures.entry }) in
    (rw c.append.ensures.items t.keeps, omega (arith, c.self.invariant.1, c.append.ensures.capacity))

pub returns : goal.returns
returns c =
    let t = took _ _ c.args.hart c.from.result _ c.index_mut-place.result.now _ _ _ c.self.view_is c.self.invariant.0 c.requires c.from.ensures c.program-program.ensures c.index_mut-place.ensures.value (record { hart = c.step_hart-entry.ensures.hart; ram = c.step_hart-entry.ensures.memory; entry = c.step_hart-entry.ensures.entry }) in
    record { entry = t.entry_is; after = rw c.append.ensures.items t.core_is; core = rw c.append.ensures.items t.keeps }
