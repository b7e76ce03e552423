use Rattle.std.proofs.lemmas.Result.{err_from_is_err_and}
use Rattle.order_texts.specs.OrderTexts.{orders_of}
use Rattle.shown_states.proofs.AnswerLemmas.{memory_begun, memory_fails, so_written, so_begun}
use Rattle.std.specs.Prelude.{string_bytes}
use Rattle.states.specs.Searches.{search_of}
use Rattle.found_texts.specs.Reduced.{IsStateAnswer}
use Rattle.explore_program.specs.Listings.{listed_of}
use Rattle.explore_program.specs.Questions.{IsExplained}
use Rattle.explore_program.proofs.QuestionLemmas.{explained_is}
use Rattle.explore_program.proofs.questions.FindSearchQuestion.write.Goals as goal

pub returns-in_err-told-clause-begun : goal.returns-in_err-told-clause-begun
returns-in_err-told-clause-begun g c =
    let p = err_from_is_err_and c.from_residual.result c.from_residual.ensures.1 in
    memory_begun _ _ _ p.0 p.1 p.2

pub returns-in_err-told-clause-failures : goal.returns-in_err-told-clause-failures
returns-in_err-told-clause-failures g c =
    let p = err_from_is_err_and c.from_residual.result c.from_residual.ensures.1 in
    memory_fails _ p.0 _ p.1 p.2

pub returns-clause-written : goal.returns-clause-written
returns-clause-written g c =
    let q = c.args.self.now in
    let explaining = q.explaining in
    let answers = IsStateAnswer q.keeps (search_of q.search) q.condition.now q.format in
    so_written (IsExplained explaining.explained (listed_of explaining.listed) q.search.image.now answers) _ _ c.put_told.result _ _
    (explained_is explaining.explained (listed_of explaining.listed) q.search.image.now answers (orders_of c.in_ok-told.told.orders.items)
    (string_bytes c.in_ok-told.told.answer.text) c.in_ok-told.told.answer.ending c.in_ok-told.ensures.says) c.put_told.ensures.written

pub returns-clause-begun : goal.returns-clause-begun
returns-clause-begun g c =
    let q = c.args.self.now in
    let explaining = q.explaining in
    let answers = IsStateAnswer q.keeps (search_of q.search) q.condition.now q.format in
    so_begun (IsExplained explaining.explained (listed_of explaining.listed) q.search.image.now answers) _ _ c.put_told.result _ _
    (explained_is explaining.explained (listed_of explaining.listed) q.search.image.now answers (orders_of c.in_ok-told.told.orders.items)
    (string_bytes c.in_ok-told.told.answer.text) c.in_ok-told.told.answer.ending c.in_ok-told.ensures.says) c.put_told.ensures.begun
