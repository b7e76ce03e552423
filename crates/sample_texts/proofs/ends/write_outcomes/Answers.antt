use Rattle.std.proofs.Common.{◌≤◌, sym, ◌∙◌, subst}
use Rattle.sample_draws.specs.declared.drawing.TheConstants.{MAX_RUN}
use Rattle.sample_tallies.specs.Sums.{ends_in_order}
use Rattle.sample_tallies.specs.declared.seen.Seen.{Seen}
use Rattle.sample_tallies.proofs.OrderLemmas.{picked_at}
use Rattle.sample_texts.specs.SampleJson.{outcome_part}
use Rattle.sample_texts.proofs.DrawableLemmas.{end_drawn}
use Rattle.sample_texts.proofs.EndLemmas.{end_step, end_last}
use Rattle.sample_texts.proofs.ends.write_outcomes.Goals as goal

pub write_outcome-requires : goal.write_outcome-requires
write_outcome-requires c =
    let sum = c.args.tally.now.sum in
    let picked = picked_at sum.ends c.args.order.now (ends_in_order sum) c.loop-place.place 0 c.requires.sorted c.loop-place-test.true in
    subst (λ (s : Seen). s.first ≤ MAX_RUN) (sym (c.end_seen.ensures picked.0 picked.2))
    (end_drawn sum _ picked.0 c.requires.told.within picked.2)

pub loop-place-preserved : goal.loop-place-preserved
loop-place-preserved c =
    let sum = c.args.tally.now.sum in
    let picked = picked_at sum.ends c.args.order.now (ends_in_order sum) c.loop-place.place 0 c.requires.sorted c.loop-place-test.true in
    record {
      written =
          end_step (outcome_part c.args.format c.args.orders.now) sum.ends (ends_in_order sum) c.args.order.now c.loop-place.place 0 picked.0
          c.load_end.new.state c.end_seen.result _ _ _ c.requires.sorted c.loop-place-test.true picked.2
          (c.load_end.ensures.state picked.0 picked.2) (c.end_seen.ensures picked.0 picked.2)
          (rw c.loop-place.invariant.same at c.in_ok-write_outcome.ensures.written) c.loop-place.invariant.written;
      same = c.write_outcome.ensures.same ∙ c.loop-place.invariant.same;
      harts = c.load_end.ensures.harts;
      granules = c.load_end.ensures.granules;
    }

pub returns-clause-written : goal.returns-clause-written
returns-clause-written c =
    let sum = c.args.tally.now.sum in
    end_last (outcome_part c.args.format c.args.orders.now) sum.ends (ends_in_order sum) c.args.order.now c.loop-place.place _ _
    c.requires.sorted c.loop-place-test.false c.loop-place.invariant.written
