use Rattle.std.proofs.Common.{◌∙◌}
use Rattle.std.proofs.lemmas.Result.{err_from_is_err_and}
use Rattle.shown_states.proofs.AnswerLemmas.{memory_begun, memory_fails}
use Rattle.explore_program.proofs.questions.put_explained.Goals as goal

pub returns-in_err-said-clause-begun : goal.returns-in_err-said-clause-begun
returns-in_err-said-clause-begun g c =
    let p = err_from_is_err_and c.from_residual.result c.from_residual.ensures.1 in
    memory_begun _ _ _ p.0 p.1 p.2

pub returns-in_err-said-clause-failures : goal.returns-in_err-said-clause-failures
returns-in_err-said-clause-failures g c =
    let p = err_from_is_err_and c.from_residual.result c.from_residual.ensures.1 in
    memory_fails _ p.0 _ p.1 p.2

pub returns-clause-written : goal.returns-clause-written
returns-clause-written g c = rw (c.bytes.ensures ∙ c.in_ok-said.ensures) at c.put_said.ensures.written

pub returns-clause-begun : goal.returns-clause-begun
returns-clause-begun g c = rw (c.bytes.ensures ∙ c.in_ok-said.ensures) at c.put_said.ensures.begun
