use Rattle.std.proofs.Common.{ap, ◌∙◌}
use Rattle.sample_tallies.specs.Known.{NumberingParts}
use Rattle.sample_tallies.proofs.NumberingLemmas.{numbering_kept, opening_kept}
use Rattle.sample_tallies.proofs.numbering.Numbering.number_memory.Goals as goal

pub invariant_of-self : goal.invariant_of-self
invariant_of-self c =
    let n = c.self.inside in
    numbering_kept n.store c.number_memory.new.self n.opening n.harts.items n.memories.items c.number_memory.ensures.kept
    c.self.invariant

pub returns-clause-opening : goal.returns-clause-opening
returns-clause-opening c =
    let n = c.self.inside in
    opening_kept n.store c.number_memory.new.self n.opening c.number_memory.ensures.kept c.self.invariant.begun
    ∙ ap (λ (p : NumberingParts). p.opening) c.self.view_is
