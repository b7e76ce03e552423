use Rattle.std.proofs.Common.{◌≡◌, length, ap, ◌∙◌, arith}
use Rattle.std.proofs.lemmas.Result.{IfOk-weaker}
use Rattle.sample_draws.specs.Draws.{draws_of_run}
use Rattle.sample_draws.specs.Orders.{first_moment}
use Rattle.sample_runs.specs.Runners.{RunnerParts}
use Rattle.sample_runs.proofs.OpenLemmas.{harts_are_few, moment_first}
use Rattle.sample_runs.proofs.runner.Runner.begin.Goals as goal

pub of_run-requires-clause-some : goal.of_run-requires-clause-some
of_run-requires-clause-some c =
    let harts = harts_are_few c.self.inside.image c.granules-granules.ensures.formed in
    omega (arith, harts.some, ap length c.harts.ensures)

pub of_run-requires-clause-few : goal.of_run-requires-clause-few
of_run-requires-clause-few c =
    let harts = harts_are_few c.self.inside.image c.granules-granules.ensures.formed in
    omega (arith, harts.few, ap length c.harts.ensures)

pub returns-clause-moment : goal.returns-clause-moment
returns-clause-moment c =
    let count = length c.harts.result.now in
    let opened = c.copy_from_slice.ensures.items ∙ (c.as_slice.ensures.value ∙ c.self.invariant.opening) in
    let memory = c.in_ok-bring_back.ensures.now ∙ c.self.invariant.memory_opening in
    IfOk-weaker c.of_run.result (λ draws. draws ≡ draws_of_run c.args.drawing.now count c.args.run) _
    (λ draws is.
    moment_first c.self.inside.image c.args.drawing.now c.args.run count c.copy_from_slice.new.self.items
    c.bring_back.new.self.now draws opened memory is (ap length c.harts.ensures)
    ∙ ap (λ (r : RunnerParts). first_moment r.image c.args.drawing.now c.args.run) c.self.view_is)
    c.of_run.ensures
