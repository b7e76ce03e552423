use Rattle.std.proofs.Common.{◌<◌, ◌≤◌, ◌∙◌, length, arith}
use Rattle.cheri_model.specs.steps.Memory.{granule_at}
use Rattle.listings.proofs.GranuleLemmas.{listed_step, listed_end}
use Rattle.listings.proofs.granules.listed_granules.Goals as goal

pub loop-number-preserved : goal.loop-number-preserved
unfolding granule_at
loop-number-preserved c =
    let room : c.loop-number.number < length c.args.ram.now = omega arith in
    listed_step _ _ _ _ c.loop-number.number _ c.args.ram.now room (c.value.ensures.value ∙ c.granule.ensures.value) (omega arith)
    c.in_ok-push_listed.ensures c.loop-number.invariant

pub returns : goal.returns
returns c =
    let ended : length c.args.ram.now ≤ c.loop-number.number = omega arith in
    listed_end _ _ _ c.loop-number.number c.args.ram.now ended c.loop-number.invariant
