use Rattle.std.proofs.Common.{◌<◌, ◌≤◌, ◌∙◌, List, length, arith, ap}
use Rattle.cap_model.specs.values.CapValue.{CapValue}
use Rattle.cheri_model.specs.steps.Memory.{granule_at}
use Rattle.serde_json.specs.Data.{Members, no_members, object}
use Rattle.serde_json.proofs.Views.{view-Object}
use Rattle.following.specs.Following.{origins_now}
use Rattle.explained_page.specs.State.{put_granules}
use Rattle.explained_page.proofs.StateLemmas.{granule_put, granules_end}
use Rattle.explained_page.proofs.state.granules_json.Goals as goal

pub loop-number-preserved : goal.loop-number-preserved
unfolding granule_at
loop-number-preserved c =
    let room : c.loop-number.number < length c.view.result.ram.now = omega arith in
    granule_put (origins_now c.args.follower.now) c.view.result.ram.now _ _ _ _ _ _ room c.granule.ensures.value
    c.in_ok-put_granule.ensures c.loop-number.invariant

pub returns : goal.returns
returns c =
    let origins = origins_now c.args.follower.now in
    let ended : length c.view.result.ram.now ≤ c.loop-number.number = omega arith in
    let whole = granules_end origins c.view.result.ram.now _ _ _ ended c.loop-number.invariant in
    let same = ap (λ s. s.memory) c.view.ensures.state in
    view-Object c.loop-number.members ∙ (ap (λ (members : Members). object members) whole
    ∙ ap (λ (memory : List CapValue). object (put_granules origins 0 memory no_members)) same)
