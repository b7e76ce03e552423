use Rattle.asked_registers.specs.Asked.{source_asks, term_asks}
use Rattle.asked_registers.proofs.AskedLemmas.{with_both}
use Rattle.asked_registers.proofs.asked.with_compared.Goals as goal

pub returns : goal.returns
returns c =
    with_both c.args.set c.with_source-first.result c.with_term.result (source_asks c.args.source) (term_asks c.args.term)
    c.with_source-first.ensures c.with_term.ensures
