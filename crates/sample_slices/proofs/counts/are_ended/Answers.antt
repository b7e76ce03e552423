use Rattle.std.proofs.Common.{◌∙◌, sym}
use Rattle.sample_tallies.specs.Sums.{ends_in_order}
use Rattle.sample_slices.proofs.CountLemmas.{ended_more, less_left, none_left, too_much}
use Rattle.sample_slices.proofs.counts.are_ended.Goals as goal

pub loop-number-preserved : goal.loop-number-preserved
loop-number-preserved c =
    let sum = c.args.tally.now.sum in
    let more = ended_more sum.ends (ends_in_order sum) c.args.order.now c.loop-number.number-index 0 c.end_seen-seen.result
    c.requires.sorted c.loop-number-test.true c.end_seen-seen.ensures in
    sym (less_left _ c.end_seen-seen.result.runs _ c.loop-number.left more c.if-seen-left.false) ∙ c.loop-number.invariant

pub returns-then-seen-left : goal.returns-then-seen-left
returns-then-seen-left c =
    let sum = c.args.tally.now.sum in
    let more = ended_more sum.ends (ends_in_order sum) c.args.order.now c.loop-number.number-index 0 c.end_seen-seen.result
    c.requires.sorted c.loop-number-test.true c.end_seen-seen.ensures in
    sym (too_much _ c.end_seen-seen.result.runs _ c.loop-number.left more c.if-seen-left.true) ∙ c.loop-number.invariant

pub returns : goal.returns
returns c =
    let sum = c.args.tally.now.sum in
    none_left sum.ends (ends_in_order sum) c.args.order.now c.loop-number.number-index c.loop-number.left _ c.requires.sorted
    c.loop-number-test.false c.loop-number.invariant
