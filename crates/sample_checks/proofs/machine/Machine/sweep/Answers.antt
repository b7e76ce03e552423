use Rattle.std.proofs.Common.{map, ap, ◌∙◌}
use Rattle.std.proofs.lemmas.List.{with_items_is}
use Rattle.cheri_model.specs.runs.Sweeps.{swept_hart}
use Rattle.cheri_model.specs.runs.Machine.{swept_state}
use Rattle.sample_runs.specs.Runners.{RunnerParts, state_of}
use Rattle.sample_runs.proofs.RunLemmas.{state_swept}
use Rattle.sample_checks.proofs.machine.Machine.sweep.Goals as goal

pub returns-clause-state : goal.returns-clause-state
returns-clause-state c =
    let same = with_items_is c.self.inside.harts c.sweep_harts.new.harts (c.sweep_harts.auto.harts ∙ c.deref_mut.ensures.len) in
    let harts = same ∙ (c.sweep_harts.ensures ∙ ap (map (swept_hart c.args.lo c.args.hi)) c.deref_mut.ensures.value) in
    state_swept c.args.lo c.args.hi c.self.inside.harts.items _ c.self.inside.memory.now c.sweep.new.self.now
    harts c.sweep.ensures.memory
    ∙ ap (λ (r : RunnerParts). swept_state c.args.lo c.args.hi (state_of r)) c.self.view_is
