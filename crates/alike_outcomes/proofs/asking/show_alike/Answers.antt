use Rattle.conditions.specs.Items.{list_of}
use Rattle.forgotten_outcomes.proofs.AnswerLemmas.{begun_as, written_as}
use Rattle.forgotten_outcomes.specs.ShownStates.{IsShownStatesAnswer}
use Rattle.shown_states.proofs.AnswerLemmas.{so_begun, so_written}
use Rattle.states.specs.Searches.{search_of}
use Rattle.alike_outcomes.specs.AlikeOutcomes.{IsAlikeShown}
use Rattle.alike_outcomes.proofs.AskedLemmas.{grouped_shown, whole_shown}
use Rattle.alike_outcomes.proofs.asking.show_alike.Goals as goal

pub returns-in_default-clause-written : goal.returns-in_default-clause-written
returns-in_default-clause-written g c =
    let search = search_of c.args.search.now in
    let items = list_of c.args.items.now in
    let keeps = c.args.manner.keeps in
    let format = c.args.manner.format in
    written_as (IsShownStatesAnswer keeps.registers search items format) (IsAlikeShown keeps search items format) c.show_states.result _ _
    (λ text ending so. whole_shown keeps search items format _ _ c.asked_for-asked.ensures
    (rw c.as_slice.ensures.value at c.named_items-named.ensures) text ending
    (rw c.in_default.is at c.in_ok-reduction.ensures) so)
    (rw (c.apart.ensures.format, c.apart.ensures.keeps) at c.show_states.ensures.written)

pub returns-in_default-clause-begun : goal.returns-in_default-clause-begun
returns-in_default-clause-begun g c =
    let search = search_of c.args.search.now in
    let items = list_of c.args.items.now in
    let keeps = c.args.manner.keeps in
    let format = c.args.manner.format in
    begun_as (IsShownStatesAnswer keeps.registers search items format) (IsAlikeShown keeps search items format) c.show_states.result _ _
    (λ text ending so. whole_shown keeps search items format _ _ c.asked_for-asked.ensures
    (rw c.as_slice.ensures.value at c.named_items-named.ensures) text ending
    (rw c.in_default.is at c.in_ok-reduction.ensures) so)
    (rw (c.apart.ensures.format, c.apart.ensures.keeps) at c.show_states.ensures.begun)

pub returns-clause-written : goal.returns-clause-written
returns-clause-written g c =
    let search = search_of c.args.search.now in
    let items = list_of c.args.items.now in
    let keeps = c.args.manner.keeps in
    let format = c.args.manner.format in
    so_written (IsAlikeShown keeps search items format) _ _ c.put_answer.result _ _
    (grouped_shown keeps search items format _ _ c.asked_for-asked.ensures
    (rw c.as_slice.ensures.value at c.named_items-named.ensures) _ _ c.in-Some.reduction
    (rw c.in-Some.is at c.in_ok-reduction.ensures) c.in_ok-answer.ensures)
    c.put_answer.ensures.written

pub returns-clause-begun : goal.returns-clause-begun
returns-clause-begun g c =
    let search = search_of c.args.search.now in
    let items = list_of c.args.items.now in
    let keeps = c.args.manner.keeps in
    let format = c.args.manner.format in
    so_begun (IsAlikeShown keeps search items format) _ _ c.put_answer.result _ _
    (grouped_shown keeps search items format _ _ c.asked_for-asked.ensures
    (rw c.as_slice.ensures.value at c.named_items-named.ensures) _ _ c.in-Some.reduction
    (rw c.in-Some.is at c.in_ok-reduction.ensures) c.in_ok-answer.ensures)
    c.put_answer.ensures.begun
