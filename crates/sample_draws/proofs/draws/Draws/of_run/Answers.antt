use Rattle.sample_draws.proofs.DrawingLemmas.{seed_within}
use Rattle.sample_draws.proofs.draws.Draws.of_run.Goals as goal

pub of_run-words-requires-clause-seed : goal.of_run-words-requires-clause-seed
of_run-words-requires-clause-seed c =
    seed_within c.args.drawing.now c.seed.result c.seed.ensures.drawing c.seed.ensures.value
