use Rattle.std.specs.Prelude.{string_bytes}
use Rattle.std.proofs.lemmas.Result.{IfOk-weaker}
use Rattle.asked_registers.specs.Asked.{condition_asks}
use Rattle.hart_symmetry.specs.Named.{condition_names}
use Rattle.order_texts.specs.OrderTexts.{orders_of}
use Rattle.reductions.proofs.ReductionLemmas.{by_reduction, by_whole}
use Rattle.states.specs.Searches.{search_of}
use Rattle.found_texts.specs.Find.{IsFindAnswer}
use Rattle.found_texts.specs.Reduced.{IsReducedAnswer}
use Rattle.found_texts.proofs.reducing.find_state.Goals as goal

pub returns-in-Some-clause-says : goal.returns-in-Some-clause-says
returns-in-Some-clause-says g c =
    let search = search_of c.args.search.now in
    let condition = c.args.condition.now in
    IfOk-weaker c.find_reduced.result _ _
    (λ told says. by_reduction c.args.keeps search c.in_ok-asked.asked c.in_ok-named.named (condition_asks condition)
    (condition_names condition)
    (IsFindAnswer search condition c.args.format (orders_of told.orders.items) (string_bytes told.answer.text) told.answer.ending)
    (λ live groups. IsReducedAnswer search condition live groups c.args.format (orders_of told.orders.items)
    (string_bytes told.answer.text) told.answer.ending) c.in_ok-asked.ensures c.in_ok-named.ensures c.in-Some.reduction
    (rw c.in-Some.is at c.in_ok-reduction.ensures) says) c.find_reduced.ensures.says

pub returns-in-None-clause-says : goal.returns-in-None-clause-says
returns-in-None-clause-says g c =
    let search = search_of c.args.search.now in
    let condition = c.args.condition.now in
    IfOk-weaker c.find.result _ _
    (λ told says. by_whole c.args.keeps search c.in_ok-asked.asked c.in_ok-named.named (condition_asks condition)
    (condition_names condition)
    (IsFindAnswer search condition c.args.format (orders_of told.orders.items) (string_bytes told.answer.text) told.answer.ending)
    (λ live groups. IsReducedAnswer search condition live groups c.args.format (orders_of told.orders.items)
    (string_bytes told.answer.text) told.answer.ending) c.in_ok-asked.ensures c.in_ok-named.ensures
    (rw c.in-None.is at c.in_ok-reduction.ensures) says) c.find.ensures.says
