use Rattle.sample_draws.proofs.DrawingLemmas.{depth_within}
use Rattle.sample_draws.proofs.draws.draw_priorities.Goals as goal

pub draw-priorities-requires-clause-depth : goal.draw-priorities-requires-clause-depth
draw-priorities-requires-clause-depth c =
    (depth_within c.args.drawing.now c.in-Some.depth c.seed-seed.ensures.drawing c.in-Some.ensures).0

pub draw-priorities-requires-clause-shallow : goal.draw-priorities-requires-clause-shallow
draw-priorities-requires-clause-shallow c =
    (depth_within c.args.drawing.now c.in-Some.depth c.seed-seed.ensures.drawing c.in-Some.ensures).1
