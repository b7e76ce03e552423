use Rattle.sample_tallies.proofs.NumberingLemmas.{numbering_kept, now_open}
use Rattle.sample_tallies.proofs.numbering.Numbering.number_opening.Goals as goal

pub invariant_of-self : goal.invariant_of-self
invariant_of-self c =
    let n = c.self.inside in
    numbering_kept n.store c.number_memory.new.self n.opening n.harts.items n.memories.items c.number_memory.ensures.kept
    c.self.invariant

pub invariant_of-self-2 : goal.invariant_of-self-2
invariant_of-self-2 c =
    let n = c.self.inside in
    now_open c.number_memory.new.self c.in_ok-number.number c.args.opening.now n.harts.items c.clear.new.self.items
    c.in_ok-number.ensures.numbered c.clear.ensures.items n.opening n.memories.items
    (numbering_kept n.store c.number_memory.new.self n.opening n.harts.items n.memories.items
    c.number_memory.ensures.kept c.self.invariant)
