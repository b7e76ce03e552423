use Rattle.std.proofs.Common.{ap, ◌∙◌}
use Rattle.cheri_model.specs.runs.Machine.{MachineState}
use Rattle.explore_verdicts.specs.Deciding.{decides}
use Rattle.explore_verdicts.proofs.deciding.DecisionStateTest.passes.Goals as goal

pub returns : goal.returns
returns c s is =
    c.is_made_in.ensures ∙ ap (λ (v : MachineState). decides c.args.self.now.when c.args.self.now.condition.now v) (c.new.ensures s is)
