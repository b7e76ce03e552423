use Rattle.std.proofs.lemmas.Result.{err_from_is_err_and}
use Rattle.explore_program.proofs.SampleLemmas.{unwritten_put}
use Rattle.explore_program.proofs.program.put_made.Goals as goal

pub returns-in_err-ending-clause-put : goal.returns-in_err-ending-clause-put
returns-in_err-ending-clause-put g c =
    let p = err_from_is_err_and c.from_residual-in_err-ending.result c.from_residual-in_err-ending.ensures.1 in
    rw (p.1, p.2, c.in_ok-answer.was) (unwritten_put c.in_ok-answer.answer c.in_err-ending.field-0.0 _ _ c.in_err-ending.ensures.begun)
