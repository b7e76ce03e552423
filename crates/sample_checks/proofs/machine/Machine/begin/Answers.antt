use Rattle.std.proofs.Common.{ap, ◌∙◌}
use Rattle.cheri_model.specs.runs.Machine.{opening_state}
use Rattle.sample_runs.specs.Runners.{RunnerParts}
use Rattle.sample_checks.proofs.MachineLemmas.{is_opening}
use Rattle.sample_checks.proofs.machine.Machine.begin.Goals as goal

pub returns-clause-state : goal.returns-clause-state
returns-clause-state c =
    is_opening c.self.inside.image c.copy_from_slice.new.self.items c.bring_back.new.self.now
    (c.copy_from_slice.ensures.items ∙ (c.as_slice.ensures.value ∙ c.self.invariant.opening))
    (c.in_ok-bring_back.ensures.now ∙ c.self.invariant.memory_opening)
    ∙ ap (λ (r : RunnerParts). opening_state r.image) c.self.view_is
