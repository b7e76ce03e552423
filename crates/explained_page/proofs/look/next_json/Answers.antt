use Rattle.std.proofs.Common.{◌≡◌, ◌∙◌, List, map, ap}
use Rattle.serde_json.specs.Data.{Data, array}
use Rattle.serde_json.specs.View.{items_of, view}
use Rattle.serde_json.proofs.Views.{view-Array}
use Rattle.cheri_model.specs.steps.Hart.{HartState}
use Rattle.explained_page.specs.Look.{next_line, line_or_null, next_data}
use Rattle.explained_page.proofs.LookLemmas.{next_more, next_end}
use Rattle.explained_page.proofs.look.next_json.Goals as goal

pub loop-hart-preserved : goal.loop-hart-preserved
loop-hart-preserved c =
    next_more view (λ hart. line_or_null (next_line c.args.lines.now hart)) c.view.result.harts.now c.loop-hart.hart-index _ _ _ _ _
    c.loop-hart-test.true c.hart-item.is (c.line_json.ensures ∙ ap line_or_null c.next_line.ensures) c.in_ok-push.ensures.items
    c.loop-hart.invariant

pub returns : goal.returns
unfolding next_data
returns c =
    let next = λ (hart : HartState). line_or_null (next_line c.args.lines.now hart) in
    let whole = next_end view next c.view.result.harts.now c.loop-hart.hart-index c.loop-hart.values.items c.loop-hart-test.false c.loop-hart.invariant in
    let same = ap (λ s. s.harts) c.view.ensures.state in
    view-Array c.loop-hart.values ∙ (ap (λ (values : List Data). array (items_of values)) whole
    ∙ ap (λ (harts : List HartState). array (items_of (map next harts))) same)
