use Rattle.std.proofs.Common.{length, subst}
use Rattle.explore_turns.specs.Turns.{turn_by}
use Rattle.states.specs.Kept.{at}
use Rattle.loop_search.specs.Verdicts.{IsVerdict}
use Rattle.state_loops.proofs.EndlessLemmas.{fair_lasso, lasso_made, no_loop, no_fair_loop, few_turns, few_steps, few_rounds}
use Rattle.state_loops.proofs.endless.endless_by.Goals as goal

pub returns-in_ok-lasso_of-in-Fair-clause-endless : goal.returns-in_ok-lasso_of-in-Fair-clause-endless
returns-in_ok-lasso_of-in-Fair-clause-endless c =
    fair_lasso c.args.kept.now c.in-Fair.found c.in_ok-lasso_of-in-Fair.field-0 c.in_ok-lasso_of-in-Fair.ensures
    (subst (IsVerdict (turn_by c.args.kept.now.image c.args.kept.now.sweeps c.args.kept.now.sight) (length c.args.kept.now.image.harts)
    (at c.args.kept.now) c.args.kept.now.complete) c.in-Fair.is c.requires)

pub returns-in_ok-lasso_of-in-Unfair-clause-endless : goal.returns-in_ok-lasso_of-in-Unfair-clause-endless
returns-in_ok-lasso_of-in-Unfair-clause-endless c =
    let v = subst (IsVerdict (turn_by c.args.kept.now.image c.args.kept.now.sweeps c.args.kept.now.sight) (length c.args.kept.now.image.harts)
    (at c.args.kept.now) c.args.kept.now.complete) c.in-Unfair.is c.requires in (
      v.0,
      no_fair_loop c.args.kept.now c.len-count.ensures.search v.0 v.1,
      few_rounds c.args.kept.now c.len-count.ensures.search v.0 v.1,
      (
        (v.2).0,
        lasso_made c.args.kept.now c.in-Unfair.found c.in_ok-lasso_of-in-Unfair.field-0
            c.in_ok-lasso_of-in-Unfair.ensures v.2,
      ),
    )

pub returns-in-NoLoop-clause-endless : goal.returns-in-NoLoop-clause-endless
returns-in-NoLoop-clause-endless c =
    let v = subst (IsVerdict (turn_by c.args.kept.now.image c.args.kept.now.sweeps c.args.kept.now.sight) (length c.args.kept.now.image.harts)
    (at c.args.kept.now) c.args.kept.now.complete) c.in-NoLoop.is c.requires in
    let few = few_turns c.args.kept.now c.len-count.ensures.search v.0 v.1 in (
      v.0,
      no_loop c.args.kept.now c.len-count.ensures.search v.0 v.1,
      few,
      few_steps c.args.kept.now c.len-count.ensures.search v.0 few,
    )
