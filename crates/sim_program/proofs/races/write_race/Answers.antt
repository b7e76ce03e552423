-- A race that has no result leaves the sink as it was.
use Rattle.std.proofs.lemmas.Result.{err_from_is_err_and}
use Rattle.sim_program.proofs.races.write_race.Goals as goal

pub returns-in_err-core-clause-failed : goal.returns-in_err-core-clause-failed
returns-in_err-core-clause-failed g c =
    let p = err_from_is_err_and c.from_residual.result c.from_residual.ensures.1 in
    rw (p.1, p.2) (c.in_err-core.ensures.refused _)
