use Rattle.std.proofs.lemmas.Result.{err_from_is_err_and}
use Rattle.explore_program.specs.Questions.{IsSaid}
use Rattle.explore_program.proofs.QuestionLemmas.{unwritten}
use Rattle.explore_program.proofs.answers.ask.Goals as goal

pub returns-in_err-ending-clause-failed : goal.returns-in_err-ending-clause-failed
returns-in_err-ending-clause-failed g c =
    let p = err_from_is_err_and c.from_residual.result c.from_residual.ensures.1 in
    let answers = g.Q.SearchQuestion.answers c.args.question.now in
    rw (p.1, p.2)
    (unwritten answers (IsSaid answers) c.in_err-ending.field-0.0 _ _ (λ text ending so. so) c.in_err-ending.ensures.begun)

pub returns-clause-printed : goal.returns-clause-printed
returns-clause-printed g c = c.in_ok-ending.ensures.written
