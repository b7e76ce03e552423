use Rattle.std.proofs.Common.{◌+◌, ◌∙◌, ap, drop, arith}
use Rattle.conditions.specs.Entries.{alone_after, entries_with}
use Rattle.conditions.proofs.MakingLemmas.{left_more, left_none, all_made}
use Rattle.conditions.proofs.entries.entries_of.Goals as goal

pub loop-node-preserved : goal.loop-node-preserved
loop-node-preserved c =
    ap (λ es. entries_with es (drop (c.loop-node.node-index + 1) c.args.nodes.now)) c.in_ok-push.ensures.items
    ∙ left_more _ c.loop-node.entries.items c.args.nodes.now c.loop-node.node-index c.node-item.result _ c.alone_after-alone.result
    (omega (arith, c.loop-node-test.true, c.loop-node.auto.node-index-end)) c.node-item.is
    (c.alone_after-alone.ensures ∙ ap (λ es. alone_after es c.node-item.result) c.as_slice.ensures.value) c.loop-node.invariant

pub returns : goal.returns
returns c = λ formula is.
    left_none _ c.loop-node.entries.items c.args.nodes.now c.loop-node.node-index
    (omega (arith, c.loop-node-test.false, c.loop-node.auto.node-index-end)) c.loop-node.invariant
    ∙ all_made formula c.args.nodes.now is
