use Rattle.conditions.specs.Items.{list_of}
use Rattle.outcome_texts.specs.Answers.{IsShownAnswer}
use Rattle.shown_states.proofs.AnswerLemmas.{so_begun, so_written}
use Rattle.states.specs.Searches.{search_of}
use Rattle.forgotten_outcomes.proofs.AnswerLemmas.{begun_as, written_as}
use Rattle.forgotten_outcomes.proofs.KeptLemmas.{reduced_shown, whole_shown}
use Rattle.forgotten_outcomes.specs.ShownStates.{IsShownStatesAnswer}
use Rattle.forgotten_outcomes.proofs.answers.show_states.Goals as goal

pub returns-in_default-clause-written : goal.returns-in_default-clause-written
returns-in_default-clause-written g c =
    let search = search_of c.args.search.now in
    let items = list_of c.args.items.now in
    let keeps = c.args.manner.keeps_registers in
    let format = c.args.manner.format in
    written_as (IsShownAnswer search items format) (IsShownStatesAnswer keeps search items format) c.show_outcomes.result _ _
    (whole_shown keeps search items format _ _ c.asked_for-asked.ensures c.all_harts.ensures
    (rw c.in_default.is at c.in_ok-reduction.ensures))
    c.show_outcomes.ensures.written

pub returns-in_default-clause-begun : goal.returns-in_default-clause-begun
returns-in_default-clause-begun g c =
    let search = search_of c.args.search.now in
    let items = list_of c.args.items.now in
    let keeps = c.args.manner.keeps_registers in
    let format = c.args.manner.format in
    begun_as (IsShownAnswer search items format) (IsShownStatesAnswer keeps search items format) c.show_outcomes.result _ _
    (whole_shown keeps search items format _ _ c.asked_for-asked.ensures c.all_harts.ensures
    (rw c.in_default.is at c.in_ok-reduction.ensures))
    c.show_outcomes.ensures.begun

pub returns-clause-written : goal.returns-clause-written
returns-clause-written g c =
    let search = search_of c.args.search.now in
    let items = list_of c.args.items.now in
    let keeps = c.args.manner.keeps_registers in
    let format = c.args.manner.format in
    so_written (IsShownStatesAnswer keeps search items format) _ _ c.put_answer.result _ _
    (reduced_shown keeps search items format _ _ c.asked_for-asked.ensures c.all_harts.ensures c.in-Some.reduction
    (rw c.in-Some.is at c.in_ok-reduction.ensures) _ _ c.in_ok-answer.ensures)
    c.put_answer.ensures.written

pub returns-clause-begun : goal.returns-clause-begun
returns-clause-begun g c =
    let search = search_of c.args.search.now in
    let items = list_of c.args.items.now in
    let keeps = c.args.manner.keeps_registers in
    let format = c.args.manner.format in
    so_begun (IsShownStatesAnswer keeps search items format) _ _ c.put_answer.result _ _
    (reduced_shown keeps search items format _ _ c.asked_for-asked.ensures c.all_harts.ensures c.in-Some.reduction
    (rw c.in-Some.is at c.in_ok-reduction.ensures) _ _ c.in_ok-answer.ensures)
    c.put_answer.ensures.begun
