-- The run is that of the image and the order that the texts mean, and a refusal is theirs.
use Rattle.std.proofs.lemmas.Result.{err_from_is_err_and}
use Rattle.simulation.proofs.SimulationLemmas.{run_is, unbooted, listing_refused, order_refused}
use Rattle.simulation.proofs.runs.run_texts.Goals as goal

pub returns-in_err-image-clause-refused : goal.returns-in_err-image-clause-refused
returns-in_err-image-clause-refused c =
    let p = err_from_is_err_and c.from_residual.result c.from_residual.ensures.1 in
    rw (p.1, p.2) (listing_refused c.args.listing.now c.args.order.now c.args.limit c.in_err-image.field-0.0 c.in_err-image.ensures)

pub returns-in_err-ops-clause-refused : goal.returns-in_err-ops-clause-refused
returns-in_err-ops-clause-refused c =
    let p = err_from_is_err_and c.from_residual-in_err-ops.result c.from_residual-in_err-ops.ensures.1 in
    rw (p.1, p.2)
    (order_refused c.args.listing.now c.args.order.now c.args.limit c.in_ok-image.image c.in_err-ops.field-0.0 c.in_ok-image.ensures c.in_err-ops.ensures.meaning)

pub returns-in_err-run_judged-clause-refused : goal.returns-in_err-run_judged-clause-refused
returns-in_err-run_judged-clause-refused c =
    let p = err_from_is_err_and c.from_residual-in_err-run_judged.result c.from_residual-in_err-run_judged.ensures.1 in
    rw (p.1, p.2)
    (unbooted c.args.listing.now c.args.order.now c.args.limit c.in_ok-image.image c.in_ok-ops.ops c.in_ok-image.ensures c.in_ok-ops.ensures.meaning c.in_err-run_judged.field-0.0 c.in_err-run_judged.ensures.limit)

pub returns-clause-run : goal.returns-clause-run
returns-clause-run c =
    run_is _ _ _ c.in_ok-image.image c.in_ok-ops.ops c.in_ok-image.ensures c.in_ok-ops.ensures.meaning _ c.in_ok-run_judged.ensures.limit c.in_ok-run_judged.ensures.run
