use Rattle.std.proofs.Common.{ap, sym, ◌∙◌, subst, ℕ, List}
use Rattle.std.specs.Prelude.{Vec}
use Rattle.std.specs.Global.{Global}
use Rattle.cheri_model.specs.declared.operation.Op.{Op}
use Rattle.outcome_texts.proofs.AnswerLemmas.{said_as}
use Rattle.shown_states.specs.Endings.{ending_of}
use Rattle.states.specs.Searches.{search_of}
use Rattle.alike_outcomes.specs.AlikeOutcomes.{AreLeftBy, IsAlikeListedAnswer}
use Rattle.alike_outcomes.proofs.AnswerLemmas.{listed_said}
use Rattle.alike_outcomes.proofs.LeftLemmas.{left_taken, outcomes_final}
use Rattle.alike_outcomes.proofs.answers.listed_answer.Goals as goal

pub orders_to-requires : goal.orders_to-requires
orders_to-requires c =
    rw c.as_slice.ensures.value (outcomes_final c.args.surveyed.now.survey c.args.surveyed.now.outcomes.items c.requires.found.outcomes)

pub listed_text-requires : goal.listed_text-requires
listed_text-requires c =
    rw (c.as_slice-2.ensures.value, c.head_of-head.ensures.image)
    (left_taken c.args.surveyed.now.survey _ c.in_ok-orders.orders.items c.in_ok-orders.ensures)

pub returns : goal.returns
returns c =
    let found = c.args.surveyed.now in
    let search = search_of c.args.search.now in
    let left = c.args.reduction.now in
    let head = c.head_of-head.ensures in
    said_as (IsAlikeListedAnswer search left.live left.groups c.args.format) _ _ _ (ending_of found.survey.complete)
    (listed_said search left.live left.groups found.survey found.outcomes.items c.requires.found c.args.format _ _ _ _
    head.left_out head.complete head.image head.states c.as_slice-2.result.now (λ reg low. c.requires.asked reg low)
    (subst (λ (os : List (Vec Op Global)). AreLeftBy found.survey found.outcomes.items os) (sym c.as_slice-2.ensures.value)
    (subst (λ (ns : List ℕ). AreLeftBy found.survey ns c.in_ok-orders.orders.items) c.as_slice.ensures.value c.in_ok-orders.ensures)))
    c.in_ok-text.ensures (c.of_search-ending.ensures ∙ ap ending_of c.is_complete.ensures)
