use Rattle.std.proofs.Common.{◌≡◌, Some, ◌+◌, ◌≤◌, arith, refl, subst, ◌∙◌}
use Rattle.cap_model.specs.values.CapValue.{parts_of}
use Rattle.bump_allocator.specs.Buffers.{IsBuffer, exact_length, allocator}
use Rattle.bump_allocator.proofs.BufferLemmas.{handed, handed_buffer, after_is}
use Rattle.bump_allocator.proofs.BumpAllocator.allocate.Goals as goal

-- the length and the region of the buffer
length_is : (c : goal.After-set_bounds_exact) → Some c.in-Some.length ≡ exact_length c.args.len
length_is c = cc

region_is : (c : goal.After-set_bounds_exact) → c.args.self.now.region ≡ c.self.inside.region
region_is c = rw (← c.self.view_is) refl

in_region : (c : goal.After-set_bounds_exact) → c.start-start.result + c.in-Some.length ≤ (parts_of c.args.self.now.region).top
in_region c = rw (region_is c) (omega (arith, c.bounds.ensures.top, c.from.ensures))

pub returns-clause-handed : goal.returns-clause-handed
returns-clause-handed c =
    handed c.args.self.now c.args.len c.in-Some.length c.start-start.result c.set_bounds_exact.result
    c.start-start.ensures.allocator (omega arith) c.requires (length_is c) c.start-start.ensures.start (in_region c)
    (rw (region_is c, ← c.set_addr.ensures) (c.set_bounds_exact.ensures))

new_is : (c : goal.After-set_bounds_exact) → record c.args.self.now { next = c.start-start.result + c.in-Some.length }
    ≡ allocator c.self.inside.region (c.start-start.result + c.from.result)
new_is c = rw (region_is c, c.from.ensures) refl

pub returns-clause-bounds : goal.returns-clause-bounds
returns-clause-bounds c =
    subst (λ new. IsBuffer c.args.self.now new c.args.len c.set_bounds_exact.result)
    (after_is c.args.self.now c.args.len c.in-Some.length c.start-start.result (length_is c) c.start-start.ensures.start (in_region c) ∙ new_is c)
    (handed_buffer c.args.self.now c.args.len c.set_bounds_exact.result c.start-start.ensures.allocator (omega arith) c.requires (returns-clause-handed c))
