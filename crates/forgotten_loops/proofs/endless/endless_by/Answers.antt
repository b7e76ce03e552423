use Rattle.std.proofs.Common.{length, subst}
use Rattle.forgotten_states.specs.Surveys.{at}
use Rattle.forgotten_turns.specs.ForgottenTurns.{forgotten_turn}
use Rattle.hart_order.specs.Arrangements.{IsUngrouped}
use Rattle.loop_search.specs.Verdicts.{IsVerdict}
use Rattle.forgotten_loops.proofs.EndlessLemmas.{fair_lasso, few_rounds, few_steps, few_turns, lasso_made, no_fair_loop, no_loop}
use Rattle.forgotten_loops.proofs.endless.endless_by.Goals as goal

pub returns-in_ok-lasso_of-in-Fair-clause-endless : goal.returns-in_ok-lasso_of-in-Fair-clause-endless
returns-in_ok-lasso_of-in-Fair-clause-endless c =
    let survey = c.args.survey.now in
    fair_lasso survey c.len-count.ensures.survey (λ hart. c.requires.ungrouped hart) c.in-Fair.found c.in_ok-lasso_of-in-Fair.field-0
    c.in_ok-lasso_of-in-Fair.ensures
    (subst (IsVerdict (forgotten_turn survey.image survey.sight survey.live) (length survey.image.harts) (at survey) survey.complete)
    c.in-Fair.is c.requires.verdict)

pub returns-in_ok-lasso_of-in-Unfair-clause-endless : goal.returns-in_ok-lasso_of-in-Unfair-clause-endless
returns-in_ok-lasso_of-in-Unfair-clause-endless c =
    let survey = c.args.survey.now in
    let is = c.len-count.ensures.survey in
    let none : IsUngrouped survey.groups = λ hart. c.requires.ungrouped hart in
    let v = subst (IsVerdict (forgotten_turn survey.image survey.sight survey.live) (length survey.image.harts) (at survey) survey.complete)
    c.in-Unfair.is c.requires.verdict in (
      v.0,
      no_fair_loop survey is none v.0 v.1,
      few_rounds survey is none v.0 v.1,
      lasso_made survey is none c.in-Unfair.found c.in_ok-lasso_of-in-Unfair.field-0 c.in_ok-lasso_of-in-Unfair.ensures v.2,
    )

pub returns-in-NoLoop-clause-endless : goal.returns-in-NoLoop-clause-endless
returns-in-NoLoop-clause-endless c =
    let survey = c.args.survey.now in
    let is = c.len-count.ensures.survey in
    let none : IsUngrouped survey.groups = λ hart. c.requires.ungrouped hart in
    let v = subst (IsVerdict (forgotten_turn survey.image survey.sight survey.live) (length survey.image.harts) (at survey) survey.complete)
    c.in-NoLoop.is c.requires.verdict in
    let few = few_turns survey is none v.0 v.1 in (
      v.0,
      no_loop survey is none v.0 v.1,
      few,
      few_steps survey is none v.0 few,
    )
