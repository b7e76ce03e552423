use Rattle.std.proofs.Common.{◌≡◌, length, take, refl, ap, arith, length-take}
use Rattle.cheri_model.specs.runs.Replay.{operations_of}
use Rattle.explanations.proofs.RunLemmas.{at_opening}
use Rattle.explained_page.proofs.PageLemmas.{state_there, origins_there, turn_within}
use Rattle.explained_page.proofs.positions.follow_to.Goals as goal

pub loop-event-init : goal.loop-event-init
loop-event-init c =
    at_opening c.args.core.now.image c.args.core.now.limit (operations_of c.args.core.now.trace) c.in_ok-follower.follower
    c.in_ok-follower.ensures.opened

pub loop-event-preserved : goal.loop-event-preserved
loop-event-preserved c =
    let core = c.args.core.now in
    let now = turn_within core.image core.trace c.view-view.result.entries.now (take c.min-last.result c.view-view.result.entries.now) core.limit c.loop-event.event-index c.min-last.result _ _ core.state c.loop-event.follower
    c.view-view.ensures.entries refl c.loop-event-test.true refl c.view-view.ensures.replay c.in_ok-follower.ensures.fits c.loop-event.invariant in
    now.next c.take_event.new.follower (c.in_ok-take_event.ensures now.goes)

pub returns-clause-state : goal.returns-clause-state
returns-clause-state c =
    state_there c.args.core.now.image c.args.core.now.limit c.args.count (length c.view-view.result.entries.now) c.min-last.result c.loop-event.event-index
    c.args.core.now.trace c.loop-event.follower (ap length c.view-view.ensures.entries) c.min-last.ensures (omega (arith, length-take c.min-last.result c.view-view.result.entries.now)) c.loop-event.invariant

pub returns-clause-origins : goal.returns-clause-origins
returns-clause-origins c =
    origins_there c.args.core.now.image c.args.core.now.limit c.args.count (length c.view-view.result.entries.now) c.min-last.result c.loop-event.event-index
    c.args.core.now.trace c.loop-event.follower (ap length c.view-view.ensures.entries) c.min-last.ensures (omega (arith, length-take c.min-last.result c.view-view.result.entries.now)) c.loop-event.invariant
