use Rattle.sample_texts.proofs.DrawableLemmas.{rows_drawn}
use Rattle.sample_texts.proofs.table.rows_of.Goals as goal

pub returns-clause-within : goal.returns-clause-within
returns-clause-within c =
    rows_drawn c.args.shown.now c.args.tally.now.sum c.in_ok-rows.rows.items c.requires.within c.in_ok-rows.ensures
