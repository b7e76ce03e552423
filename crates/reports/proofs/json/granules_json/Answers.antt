use Rattle.std.proofs.Common.{◌<◌, ◌≤◌, length, arith}
use Rattle.cheri_model.specs.steps.Memory.{granule_at}
use Rattle.serde_json.proofs.Views.{view-Object}
use Rattle.reports.proofs.JsonLemmas.{granule_put, granules_end}
use Rattle.reports.proofs.json.granules_json.Goals as goal

pub loop-number-preserved : goal.loop-number-preserved
unfolding granule_at
loop-number-preserved c =
    let room : c.loop-number.number < length c.args.ram.now = omega arith in
    granule_put c.args.ram.now _ _ _ _ _ _ room c.granule.ensures.value c.in_ok-put_granule.ensures c.loop-number.invariant

pub returns : goal.returns
returns c =
    let ended : length c.args.ram.now ≤ c.loop-number.number = omega arith in
    rw (view-Object, granules_end c.args.ram.now _ _ _ ended c.loop-number.invariant)
