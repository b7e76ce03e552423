use Rattle.std.proofs.Common.{◌≡◌, ◌≤◌, ◌∙◌, length, map, List, ap}
use Rattle.serde_json.specs.Data.{Data, array}
use Rattle.serde_json.specs.View.{items_of, view}
use Rattle.serde_json.proofs.Views.{view-Array}
use Rattle.cheri_model.specs.steps.Hart.{HartState}
use Rattle.following.specs.Following.{origins_now}
use Rattle.explained_page.specs.State.{harts_from}
use Rattle.explained_page.proofs.StateLemmas.{hart_more, harts_end}
use Rattle.explained_page.proofs.state.harts_json.Goals as goal

pub loop-place-preserved : goal.loop-place-preserved
loop-place-preserved c =
    hart_more view (origins_now c.args.follower.now) c.view-view.result.harts.now c.loop-place.place _ _ _ _ _ _
    c.loop-place-test.true c.hart-item.is c.in_ok-hart_json.ensures c.in_ok-push.ensures.items c.loop-place.invariant

pub returns : goal.returns
returns c =
    let origins = origins_now c.args.follower.now in
    let whole = harts_end origins c.view-view.result.harts.now c.loop-place.place (map view c.loop-place.values.items) _ c.loop-place-test.false c.loop-place.invariant in
    let same = ap (λ s. s.harts) c.view-view.ensures.state in
    view-Array c.loop-place.values ∙ (ap (λ (values : List Data). array (items_of values)) whole
    ∙ ap (λ (harts : List HartState). array (items_of (harts_from origins 0 harts))) same)
