use Rattle.std.proofs.Common.{◌≡◌, ◌<◌, true, false, length, ap, ◌∙◌, rules, arith}
use Rattle.cheri_model.specs.declared.operation.Op.{Op}
use Rattle.sample_draws.specs.Draws.{DrawParts, chosen}
use Rattle.sample_draws.specs.Orders.{running_harts}
use Rattle.sample_draws.proofs.DrawingLemmas.{drawing_within}
use Rattle.sample_runs.specs.Runners.{RunnerParts, state_of}
use Rattle.sample_runs.proofs.OpenLemmas.{harts_are_few}
use Rattle.sample_runs.proofs.RunLemmas.{moment_next}
use Rattle.sample_runs.proofs.NextLemmas.{IsNext, running_are, none_run, is_next, empty_is, empty_not}
use Rattle.sample_runs.proofs.runner.Runner.advance.Goals as goal
use Rattle.sample_runs.proofs.runner.Runner.advance.Goals.{After-choose-op}

pub list_running-running-requires : goal.list_running-running-requires
list_running-running-requires c =
    let harts = harts_are_few c.self.inside.image c.granules-granules.ensures.formed in
    omega (arith, harts.few, c.self.invariant.count, ap length c.as_slice.ensures.value)

pub returns-then-is_empty-clause-over : goal.returns-then-is_empty-clause-over
returns-then-is_empty-clause-over c = λ _.
    let state = state_of c.args.self.now in
    let here = ap (λ (r : RunnerParts). r.harts) c.self.view_is in
    let listed = c.as_slice-2.ensures.value ∙ running_are c.as_slice.result.now state c.list_running-running.result.items
    c.list_running-running.ensures.listed (c.as_slice.ensures.value ∙ here) in
    let none : c.is_empty.result ≡ true = search rules in
    none_run state c.as_slice-2.result.now listed
    (empty_is c.as_slice-2.result.now c.is_empty.result c.is_empty.ensures none)

pub choose-op-requires-clause-few : goal.choose-op-requires-clause-few
choose-op-requires-clause-few c =
    omega (arith, (drawing_within c.args.drawing.now c.seed-seed.ensures.drawing).sweeps, ap length c.sweeps.ensures)

-- the operation that is taken next
next : (c : After-choose-op)
    → IsNext c.args.drawing.now (state_of c.args.self.now) c.args.draws.now c.choose-op.new.self c.choose-op.result
next c =
    let state = state_of c.args.self.now in
    let here = ap (λ (r : RunnerParts). r.harts) c.self.view_is in
    let listed = c.as_slice-3.ensures.value ∙ running_are c.as_slice.result.now state c.list_running-running.result.items
    c.list_running-running.ensures.listed (c.as_slice.ensures.value ∙ here) in
    let runs : c.is_empty.result ≡ false = search rules in
    let some : 0 < length c.as_slice-3.result.now =
    omega (
      arith,
      empty_not c.as_slice-2.result.now c.is_empty.result c.is_empty.ensures runs,
      ap length c.as_slice-2.ensures.value,
      ap length c.as_slice-3.ensures.value,
    ) in
    is_next c.args.drawing.now state c.args.draws.now c.choose-op.new.self c.choose-op.result c.sweeps.result.now
    c.as_slice-3.result.now c.seed-seed.ensures.drawing c.sweeps.ensures listed some c.choose-op.ensures

pub take-requires-clause-may : goal.take-requires-clause-may
take-requires-clause-may c = (next (goal.at.take-requires-clause-may c).After-choose-op).may

pub take-requires-clause-steps : goal.take-requires-clause-steps
take-requires-clause-steps c =
    omega (arith, (next (goal.at.take-requires-clause-steps c).After-choose-op).steps, c.requires)

pub returns-clause-on : goal.returns-clause-on
returns-clause-on c = (next (goal.at.returns-clause-on c).After-choose-op).on

pub returns-clause-chosen : goal.returns-clause-chosen
returns-clause-chosen c =
    ap (λ (choice : Op × DrawParts). choice.0) (next (goal.at.returns-clause-chosen c).After-choose-op).choice

pub returns-clause-next : goal.returns-clause-next
returns-clause-next c =
    let state = state_of c.args.self.now in
    moment_next c.args.self.now.image state c.choose-op.result c.choose-op.new.self
    (chosen c.args.drawing.now.sweeps (running_harts state) c.args.draws.now) c.take.new.draws (state_of c.take.new.self)
    (next (goal.at.returns-clause-next c).After-choose-op).choice c.take.ensures.state c.take.ensures.draws
