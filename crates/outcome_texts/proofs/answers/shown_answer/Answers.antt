use Rattle.std.proofs.Common.{ap, length, map}
use Rattle.conditions.specs.Items.{list_of}
use Rattle.shown_states.specs.Endings.{ending_of}
use Rattle.states.specs.Searches.{search_of}
use Rattle.outcome_texts.specs.Answers.{IsShownAnswer}
use Rattle.outcome_texts.proofs.AnswerLemmas.{rows_below, rows_distinct, rows_known, shown_said, said_as}
use Rattle.outcome_texts.proofs.answers.shown_answer.Goals as goal

pub rows_of-requires : goal.rows_of-requires
rows_of-requires c = record {
  outcomes = rw c.as_slice-outcomes.ensures.value c.requires.found.outcomes;
}

pub rows_told-requires : goal.rows_told-requires
rows_told-requires c =
    let kept = c.args.searched.now.kept in
    rw c.as_slice.ensures.value
    (rows_below kept _ _ _ (rw c.as_slice-outcomes.ensures.value c.requires.found.outcomes) c.in_ok-rows.ensures)

pub returns : goal.returns
returns c =
    let found = c.args.searched.now in
    let kept = found.kept in
    let items = list_of c.args.items.now in
    let search = search_of c.args.search.now in
    said_as (IsShownAnswer search items c.args.format) _ _ _ (ending_of kept.complete)
    (shown_said search kept items found.endless _ found.outcomes.items c.args.format c.in_ok-rows.rows.items c.as_slice-2.result.now _ _ _ _ _ _
    c.requires.found
    (rows_distinct kept _ _ _ _ _ c.as_slice-shown.ensures.value c.as_slice-outcomes.ensures.value c.in_ok-rows.ensures)
    (rows_known kept _ _ _ _ _ _ c.as_slice-shown.ensures.value c.as_slice.ensures.value c.as_slice-2.ensures.value c.in_ok-told.ensures)
    c.head_of-head.ensures.reduced c.head_of-head.ensures.complete c.head_of-head.ensures.image c.head_of-head.ensures.states c.head_of-head.ensures.endless
    (ap length c.as_slice-outcomes.ensures.value)
    (ap (map (λ name. name.now)) c.as_slice-names.ensures.value))
    c.in_ok-text.ensures c.ending-ending.ensures
