use Rattle.std.proofs.Common.{◌≡◌, ◌∙◌, sym, arith, rules}
use Rattle.sample_draws.proofs.RankLemmas.{changed_there, changed_elsewhere, changed_ranks-end}
use Rattle.sample_draws.proofs.ranks.change_ranks.Goals as goal
use Rattle.sample_draws.proofs.ranks.change_ranks.Goals.{then-place-steps, else-place-steps}

pub loop-place-preserved : goal.loop-place-preserved
loop-place-preserved c = record {
  number = omega arith;
  same = elim c.if-place-steps.branch [
    | then-place-steps w ↦
        let from : w.from.result ≡ w.first-hart.result = search rules in
        changed_there c.args.steps c.args.harts c.args.waiting.now c.args.running.now
        c.loop-place.place-index w.from.result c.loop-place.number c.args.changes.now
        c.loop-place.ranks c.if-place-steps.ranks (omega arith) w.if-place-steps.true
        (from ∙ w.first-hart.ensures.value) c.loop-place.invariant.number w.ranks-is
        ∙ c.loop-place.invariant.same
    | else-place-steps w ↦
        changed_elsewhere c.args.steps c.args.harts c.args.waiting.now c.args.running.now
        c.loop-place.place-index c.args.changes.now
        c.loop-place.ranks c.if-place-steps.ranks (omega arith) w.if-place-steps.false w.ranks-is
        ∙ c.loop-place.invariant.same
  ];
}

pub returns : goal.returns
returns c =
    sym (changed_ranks-end c.args.steps c.args.harts c.args.waiting.now c.args.running.now
    c.loop-place.place-index c.args.changes.now c.loop-place.ranks (omega arith))
    ∙ c.loop-place.invariant.same
