use Rattle.explore_program.proofs.sampling.sample_image.Goals as goal

pub returns-then-request : goal.returns-then-request
returns-then-request g c = rw c.if-request.true c.sample_checked.ensures

pub returns-else-request : goal.returns-else-request
returns-else-request g c = rw c.if-request.false c.sample_unchecked.ensures
