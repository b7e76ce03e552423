use Rattle.std.proofs.Common.{◌+◌, arith}
use Rattle.std.proofs.lemmas.Grind.{common_steps}
use Rattle.std.proofs.lemmas.List.{same_lists}
use Rattle.explore_rights.specs.Held.{held_by}
use Rattle.explore_rights.proofs.HeldLemmas.{one_more_held}
use Rattle.explore_rights.proofs.held.held_by.Goals as goal

pub loop-number-preserved : goal.loop-number-preserved
loop-number-preserved c =
    let count = c.pcc-held.ensures.formed.count in
    let below = c.loop-number-test.true in
    one_more_held c.args.hart.now c.loop-number.held c.loop-number.number (c.from.result + 1) c.register.result count
    (omega (arith, below)) (grind (arith, common_steps)) (grind (arith, common_steps)) c.loop-number.invariant

pub returns : goal.returns
returns c =
    let count = c.pcc-held.ensures.formed.count in
    let past = c.loop-number-test.false in
    same_lists c.loop-number.held (held_by c.args.hart.now) (grind (arith, common_steps))
    (λ k d inside. c.loop-number.invariant.1 k d (omega (arith, past, c.loop-number.invariant.0)))
