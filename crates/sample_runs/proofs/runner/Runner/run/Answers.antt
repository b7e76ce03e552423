use Rattle.std.proofs.Common.{refl, ap, ◌∙◌}
use Rattle.sample_draws.specs.Orders.{run_from}
use Rattle.sample_runs.specs.Runners.{RunnerParts, state_of, moment_of}
use Rattle.sample_runs.proofs.WholeLemmas.{IsRun, run_left, no_steps, is_run}
use Rattle.sample_runs.proofs.runner.Runner.run.Goals as goal
use Rattle.sample_runs.proofs.runner.Runner.run.Goals.{After-end-end}

pub run_on-length-requires : goal.run_on-length-requires
run_on-length-requires c =
    no_steps c.args.self.now.image c.args.drawing.now c.args.run (moment_of c.begin.new.self c.in_ok-draws.draws)
    c.in_ok-draws.ensures.moment

-- the whole run
whole : (c : After-end-end) → IsRun c.args.self.now.image c.args.drawing.now c.args.run
    (state_of c.run_on-length.new.self) c.end-end.result c.run_on-length.result
whole c =
    let image = c.args.self.now.image in
    let drawing = c.args.drawing.now in
    let moment = moment_of c.begin.new.self c.in_ok-draws.draws in
    let seen = c.in_ok-draws.ensures.image in
    let all = run_left image c.begin.new.self.image drawing c.args.run drawing.length moment seen refl
    c.in_ok-draws.ensures.moment in
    is_run image c.run_on-length.new.self.image drawing c.args.run
    (run_from c.begin.new.self.image drawing drawing.length moment) (state_of c.run_on-length.new.self) c.end-end.result
    c.run_on-length.result all c.run_on-length.ensures.state (c.run_on-length.ensures.image ∙ seen)
    c.end-end.ensures.value c.run_on-length.ensures.count c.in_ok-draws.ensures.lawful

pub returns-clause-state : goal.returns-clause-state
returns-clause-state c = ap (λ (r : RunnerParts). state_of r) c.end-end.ensures.same ∙ (whole (goal.at.returns-clause-state c).After-end-end).left

pub returns-clause-end : goal.returns-clause-end
returns-clause-end c = (whole (goal.at.returns-clause-end c).After-end-end).ends

pub returns-clause-length : goal.returns-clause-length
returns-clause-length c = (whole (goal.at.returns-clause-length c).After-end-end).long

pub returns-clause-hung : goal.returns-clause-hung
returns-clause-hung c = (whole (goal.at.returns-clause-hung c).After-end-end).stays
