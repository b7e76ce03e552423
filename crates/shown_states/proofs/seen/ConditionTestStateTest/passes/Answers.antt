use Rattle.std.proofs.Common.{ap, ◌∙◌}
use Rattle.cheri_model.specs.runs.Machine.{MachineState}
use Rattle.conditions.specs.Holding.{holds}
use Rattle.shown_states.proofs.seen.ConditionTestStateTest.passes.Goals as goal

pub returns : goal.returns
returns c s is =
    c.holds.ensures ∙ ap (λ (v : MachineState). holds v c.args.self.now.condition.now) (c.new.ensures s is)
