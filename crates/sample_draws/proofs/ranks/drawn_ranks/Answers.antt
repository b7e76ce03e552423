use Rattle.std.proofs.Common.{◌-◌, sym, ap, ◌∙◌, arith}
use Rattle.sample_draws.specs.Ranks.{shuffled}
use Rattle.sample_draws.proofs.RankLemmas.{shuffled-step, shuffled-end}
use Rattle.sample_draws.proofs.ranks.drawn_ranks.Goals as goal

pub loop-place-preserved : goal.loop-place-preserved
loop-place-preserved c = record {
  below = omega arith;
  same =
      ap (λ r. shuffled (c.loop-place.place - 1) r c.draw-other.new.self) c.swap.ensures.after
      ∙ sym (shuffled-step c.loop-place.place c.draw-other.result c.loop-place.ranks c.loop-place.words
      c.draw-other.new.self (omega arith) c.draw-other.ensures.value)
      ∙ c.loop-place.invariant.same;
}

pub returns : goal.returns
returns c =
    sym (shuffled-end c.loop-place.place c.loop-place.ranks c.loop-place.words (omega arith))
    ∙ c.loop-place.invariant.same
