use Rattle.forgotten_outcomes.proofs.AnswerLemmas.{begun_as, written_as}
use Rattle.outcome_texts.specs.Answers.{IsListedAnswer}
use Rattle.shown_states.proofs.AnswerLemmas.{so_begun, so_written}
use Rattle.states.specs.Searches.{search_of}
use Rattle.alike_outcomes.specs.AlikeOutcomes.{IsAlikeListed}
use Rattle.alike_outcomes.proofs.AskedLemmas.{grouped_listed, whole_listed}
use Rattle.alike_outcomes.proofs.asking.list_alike.Goals as goal

pub returns-in_default-clause-written : goal.returns-in_default-clause-written
returns-in_default-clause-written g c =
    let search = search_of c.args.search.now in
    let harts = c.args.manner.keeps.harts in
    let format = c.args.manner.format in
    written_as (IsListedAnswer search format) (IsAlikeListed harts search format) c.list_outcomes.result _ _
    (λ text ending so. whole_listed harts search format _ _ c.nobody.ensures text ending
    (rw (c.whole_keeps-keeps.ensures, c.in_default.is) at c.in_ok-reduction.ensures) so)
    c.list_outcomes.ensures.written

pub returns-in_default-clause-begun : goal.returns-in_default-clause-begun
returns-in_default-clause-begun g c =
    let search = search_of c.args.search.now in
    let harts = c.args.manner.keeps.harts in
    let format = c.args.manner.format in
    begun_as (IsListedAnswer search format) (IsAlikeListed harts search format) c.list_outcomes.result _ _
    (λ text ending so. whole_listed harts search format _ _ c.nobody.ensures text ending
    (rw (c.whole_keeps-keeps.ensures, c.in_default.is) at c.in_ok-reduction.ensures) so)
    c.list_outcomes.ensures.begun

pub returns-clause-written : goal.returns-clause-written
returns-clause-written g c =
    let search = search_of c.args.search.now in
    let harts = c.args.manner.keeps.harts in
    let format = c.args.manner.format in
    so_written (IsAlikeListed harts search format) _ _ c.put_answer.result _ _
    (grouped_listed harts search format _ _ c.nobody.ensures _ _ c.in-Some.reduction
    (rw (c.whole_keeps-keeps.ensures, c.in-Some.is) at c.in_ok-reduction.ensures) c.in_ok-answer.ensures)
    c.put_answer.ensures.written

pub returns-clause-begun : goal.returns-clause-begun
returns-clause-begun g c =
    let search = search_of c.args.search.now in
    let harts = c.args.manner.keeps.harts in
    let format = c.args.manner.format in
    so_begun (IsAlikeListed harts search format) _ _ c.put_answer.result _ _
    (grouped_listed harts search format _ _ c.nobody.ensures _ _ c.in-Some.reduction
    (rw (c.whole_keeps-keeps.ensures, c.in-Some.is) at c.in_ok-reduction.ensures) c.in_ok-answer.ensures)
    c.put_answer.ensures.begun
