use Rattle.std.proofs.Common.{◌∙◌, arith}
use Rattle.page_searches.proofs.Limits.{some_runs}
use Rattle.page_searches.proofs.SampleLemmas.{sample_kept}
use Rattle.page_searches.proofs.sampling.sampled.Goals as goal

pub overflow_sub-drawn : goal.overflow_sub-drawn
overflow_sub-drawn c = some_runs c.args.drawn c.requires.some

pub returns : goal.returns
returns c =
    sample_kept c.args.drawn c.args.image.now c.args.drawing.now c.from.result c.from-2.result c.tally.result.now.sum _ c.kept.result
    c.requires.drawing (omega arith) (omega arith) (c.tally.ensures.sum ∙ c.in_ok-counted.ensures.sum) c.in_ok-text.ensures
    c.kept.ensures
