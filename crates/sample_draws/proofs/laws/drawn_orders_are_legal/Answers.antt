use Rattle.cheri_model.specs.runs.Replay.{replayed_state}
use Rattle.sample_draws.specs.Orders.{first_moment, drawn_run}
use Rattle.sample_draws.proofs.DrawingLemmas.{drawing_within}
use Rattle.sample_draws.proofs.OrderLemmas.{run_legal, run_leads, run_short, run_whole}
use Rattle.sample_draws.proofs.laws.drawn_orders_are_legal.Goals as goal

pub returns-clause-legal : goal.returns-clause-legal
unfolding drawn_run
returns-clause-legal c = λ image drawing run is.
    run_legal image drawing drawing.length (first_moment image drawing run) (drawing_within drawing is).ranges

pub returns-clause-leads : goal.returns-clause-leads
unfolding drawn_run replayed_state
returns-clause-leads c = λ image drawing run.
    run_leads image drawing drawing.length (first_moment image drawing run)

pub returns-clause-short : goal.returns-clause-short
unfolding drawn_run
returns-clause-short c = λ image drawing run.
    run_short image drawing drawing.length (first_moment image drawing run)

pub returns-clause-whole : goal.returns-clause-whole
unfolding drawn_run
returns-clause-whole c = λ image drawing run over.
    run_whole image drawing drawing.length (first_moment image drawing run) over
