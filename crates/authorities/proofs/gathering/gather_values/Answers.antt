use Rattle.std.proofs.Common.{◌∙◌}
use Rattle.authorities.proofs.GatherLemmas.{gathers_more}
use Rattle.authorities.proofs.gathering.gather_values.Goals as goal

pub loop-id-preserved : goal.loop-id-preserved
loop-id-preserved c = record {
  gathers = gathers_more c.args.store.now.values c.args.ids.now c.loop-id.id-index c.args.state
      c.args.gathering.now.greatest.items c.loop-id.gathering.greatest.items
      c.gather_value.new.gathering.greatest.items c.loop-id-test.true c.loop-id.invariant.gathers
      c.in_ok-gather_value.ensures.gathers;
  marked = c.in_ok-gather_value.ensures.marked;
  same_parts = c.gather_value.ensures.same_parts ∙ c.loop-id.invariant.same_parts;
}
