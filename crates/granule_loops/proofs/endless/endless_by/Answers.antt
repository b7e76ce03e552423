use Rattle.std.proofs.Common.{◌≡◌, ◌∙◌, length, subst, sym}
use Rattle.std.specs.Prelude.{true}
use Rattle.cheri_model.specs.runs.Image.{ImageParts}
use Rattle.cheri_model.specs.runs.ImageRules.{is_image}
use Rattle.granule_loops.proofs.EndlessLemmas.{fair_lasso, few_rounds, few_steps, few_turns, lasso_made, no_fair_loop, no_loop}
use Rattle.granule_loops.proofs.endless.endless_by.Goals as goal
use Rattle.granule_states.specs.Graphs.{turn_in}
use Rattle.granule_states.specs.Owned.{at}
use Rattle.loop_search.specs.Verdicts.{IsVerdict}

pub returns-in_ok-lasso_of-in-Fair-clause-endless : goal.returns-in_ok-lasso_of-in-Fair-clause-endless
returns-in_ok-lasso_of-in-Fair-clause-endless c =
    let kept = c.args.kept.now in
    fair_lasso kept c.in-Fair.found c.in_ok-lasso_of-in-Fair.field-0 c.in_ok-lasso_of-in-Fair.ensures
    (subst (IsVerdict (turn_in kept.graph) (length kept.graph.graph.image.harts) (at kept) kept.finished) c.in-Fair.is c.requires)

pub returns-in_ok-lasso_of-in-Unfair-clause-endless : goal.returns-in_ok-lasso_of-in-Unfair-clause-endless
returns-in_ok-lasso_of-in-Unfair-clause-endless c =
    let kept = c.args.kept.now in
    let v = subst (IsVerdict (turn_in kept.graph) (length kept.graph.graph.image.harts) (at kept) kept.finished) c.in-Unfair.is
    c.requires in
    let formed = subst (λ (i : ImageParts). is_image i ≡ true) c.image.ensures c.granules-granules.ensures.formed in
    let done = c.if-is_complete.true in
    let search = c.len-count.ensures.search in
    let owned = c.is_complete-is_complete.ensures.owned done in (
      sym c.is_complete-is_complete.ensures.complete ∙ done,
      no_fair_loop kept search formed v.0 owned (c.is_complete-is_complete.ensures.all done) v.1,
      few_rounds kept search formed v.0 owned v.1,
      (
        (v.2).0,
        lasso_made kept c.in-Unfair.found c.in_ok-lasso_of-in-Unfair.field-0 c.in_ok-lasso_of-in-Unfair.ensures v.2,
      ),
    )

pub returns-in-NoLoop-clause-endless : goal.returns-in-NoLoop-clause-endless
returns-in-NoLoop-clause-endless c =
    let kept = c.args.kept.now in
    let v = subst (IsVerdict (turn_in kept.graph) (length kept.graph.graph.image.harts) (at kept) kept.finished) c.in-NoLoop.is
    c.requires in
    let formed = subst (λ (i : ImageParts). is_image i ≡ true) c.image.ensures c.granules-granules.ensures.formed in
    let done = c.if-is_complete-2.true in
    let search = c.len-count.ensures.search in
    let owned = c.is_complete-is_complete.ensures.owned done in
    let few = few_turns kept search formed v.0 owned v.1 in (
      sym c.is_complete-is_complete.ensures.complete ∙ done,
      no_loop kept search formed v.0 owned (c.is_complete-is_complete.ensures.all done) v.1,
      few,
      few_steps kept search formed v.0 owned few,
    )
