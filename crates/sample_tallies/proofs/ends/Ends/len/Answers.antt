use Rattle.std.proofs.Common.{length, sym, ap, ◌∙◌}
use Rattle.sample_tallies.specs.Counts.{EndsParts}
use Rattle.sample_tallies.proofs.EndLemmas.{table_size}
use Rattle.sample_tallies.proofs.ends.Ends.len.Goals as goal

pub returns-clause-count : goal.returns-clause-count
returns-clause-count c =
    let e = c.self.inside in
    c.len.ensures.count ∙ sym (table_size e.numbering.store e.harts e.rows e.seen.items c.self.invariant)
    ∙ ap (λ (p : EndsParts). length p.table) c.self.view_is
