use Rattle.std.specs.Prelude.{string_bytes}
use Rattle.std.proofs.lemmas.Result.{IfOk-weaker}
use Rattle.explore_checks.specs.Checks.{IsCheckAnswer}
use Rattle.order_texts.specs.OrderTexts.{orders_of}
use Rattle.reductions.proofs.ReductionLemmas.{by_reduction, by_whole}
use Rattle.states.specs.Searches.{search_of}
use Rattle.forgotten_checks.specs.Asked.{properties_ask, properties_name}
use Rattle.forgotten_checks.specs.StateChecks.{IsReducedCheckAnswer, keeps_for}
use Rattle.forgotten_checks.proofs.answering.check_states.Goals as goal

pub returns-in-Some : goal.returns-in-Some
returns-in-Some g c =
    let search = search_of c.args.search.now in
    let properties = c.args.properties.now in
    IfOk-weaker c.check_reduced.result _ _
    (λ told says. by_reduction (keeps_for c.args.keeps properties) search c.in_ok-asked.asked c.in_ok-named.named
    (properties_ask properties) (properties_name properties)
    (IsCheckAnswer search properties c.args.format (orders_of told.orders.items) (string_bytes told.answer.text) told.answer.ending)
    (λ live groups. IsReducedCheckAnswer search properties live groups c.args.format (orders_of told.orders.items)
    (string_bytes told.answer.text) told.answer.ending) c.in_ok-asked.ensures c.in_ok-named.ensures c.in-Some.reduction
    (rw (c.keeps_for-keeps.ensures, c.in-Some.is) at c.in_ok-reduction.ensures) says) c.check_reduced.ensures

pub returns-in-None : goal.returns-in-None
returns-in-None g c =
    let search = search_of c.args.search.now in
    let properties = c.args.properties.now in
    IfOk-weaker c.check.result _ _
    (λ told says. by_whole (keeps_for c.args.keeps properties) search c.in_ok-asked.asked c.in_ok-named.named
    (properties_ask properties) (properties_name properties)
    (IsCheckAnswer search properties c.args.format (orders_of told.orders.items) (string_bytes told.answer.text) told.answer.ending)
    (λ live groups. IsReducedCheckAnswer search properties live groups c.args.format (orders_of told.orders.items)
    (string_bytes told.answer.text) told.answer.ending) c.in_ok-asked.ensures c.in_ok-named.ensures
    (rw (c.keeps_for-keeps.ensures, c.in-None.is) at c.in_ok-reduction.ensures) says) c.check.ensures
