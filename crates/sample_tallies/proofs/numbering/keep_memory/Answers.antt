use Rattle.std.proofs.Common.{refl, inr}
use Rattle.sample_tallies.specs.declared.numbering.KnownMemory.{KnownMemory}
use Rattle.sample_tallies.proofs.NumberingLemmas.{memory_push, memory_set}
use Rattle.sample_tallies.proofs.numbering.keep_memory.Goals as goal

pub loop-alloc-init : goal.loop-alloc-init
loop-alloc-init c = λ k x at. inr (inr (k, at))

pub loop-alloc-preserved : goal.loop-alloc-preserved
loop-alloc-preserved c =
    let blank : KnownMemory = record { number = c.args.opening; changed = c.new.result } in
    memory_push c.args.opening c.args.memories.now.items c.loop-alloc.memories.items c.push.new.self.items c.args.known
    blank c.in_ok-push.ensures.items refl c.new.ensures.items c.loop-alloc.invariant

pub returns : goal.returns
returns c =
    memory_set c.args.opening c.args.memories.now.items c.loop-alloc.memories.items c.args.place c.args.known
    c.loop-alloc.invariant
