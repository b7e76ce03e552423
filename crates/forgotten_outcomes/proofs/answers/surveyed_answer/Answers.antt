use Rattle.std.proofs.Common.{ap, map, sym, ◌∙◌, subst}
use Rattle.asked_registers.specs.Asked.{HasAsked, items_ask}
use Rattle.conditions.specs.Items.{list_of}
use Rattle.hart_order.specs.Arrangements.{IsUngrouped}
use Rattle.live_registers.specs.LiveSets.{LiveSets}
use Rattle.outcome_texts.proofs.AnswerLemmas.{said_as}
use Rattle.shown_states.specs.Endings.{ending_of}
use Rattle.states.specs.Searches.{search_of}
use Rattle.forgotten_outcomes.proofs.AnswerLemmas.{none_moves, reduced_said, rows_distinct, rows_final, rows_known}
use Rattle.forgotten_outcomes.specs.ShownStates.{IsReducedShownAnswer}
use Rattle.forgotten_outcomes.proofs.answers.surveyed_answer.Goals as goal

pub rows_of-requires : goal.rows_of-requires
rows_of-requires c = record {
  outcomes = rw c.as_slice-outcomes.ensures.value c.requires.found.outcomes;
}

pub rows_told-requires-clause-asked : goal.rows_told-requires-clause-asked
rows_told-requires-clause-asked c =
    rw c.as_slice-shown.ensures.value
    (subst (λ (l : LiveSets). HasAsked l.asked (items_ask c.args.items.now.shown.items)) (sym c.requires.found.survey_is.live_is)
    c.requires.asked)

pub rows_told-requires-clause-named : goal.rows_told-requires-clause-named
rows_told-requires-clause-named c =
    none_moves c.args.surveyed.now.survey.groups _ (subst IsUngrouped (sym c.requires.found.survey_is.groups_are) c.requires.ungrouped)

pub rows_told-requires-clause-rows : goal.rows_told-requires-clause-rows
rows_told-requires-clause-rows c =
    rw c.as_slice.ensures.value
    (rows_final c.args.surveyed.now.survey _ _ _ (rw c.as_slice-outcomes.ensures.value c.requires.found.outcomes) c.in_ok-rows.ensures)

pub returns : goal.returns
returns c =
    let found = c.args.surveyed.now in
    let items = list_of c.args.items.now in
    let search = search_of c.args.search.now in
    let left = c.args.reduction.now in
    said_as (IsReducedShownAnswer search items left.live left.groups c.args.format) _ _ _ (ending_of found.survey.complete)
    (reduced_said search left.live left.groups items c.args.format found.survey found.endless _ found.outcomes.items c.in_ok-rows.rows.items
    c.as_slice-2.result.now _ _ _ _ _ _ c.requires.found c.requires.asked c.requires.ungrouped
    (rows_distinct found.survey _ _ _ _ _ c.as_slice-shown.ensures.value c.as_slice-outcomes.ensures.value c.in_ok-rows.ensures)
    (rows_known found.survey _ _ _ _ _ _ c.as_slice-shown.ensures.value c.as_slice.ensures.value c.as_slice-2.ensures.value
    c.in_ok-told.ensures)
    c.head_of-head.ensures.reduced c.head_of-head.ensures.complete c.head_of-head.ensures.image c.head_of-head.ensures.states
    c.head_of-head.ensures.endless (ap (map (λ name. name.now)) c.as_slice-names.ensures.value))
    c.in_ok-text.ensures (c.of_search-ending.ensures ∙ ap ending_of c.is_complete.ensures)
