use Rattle.std.proofs.Common.{sym, ◌∙◌, ap, subst}
use Rattle.cheri_model.specs.declared.operation.Op.TheVariants as operation
use Rattle.cores.specs.Cores.{refused, applied}
use Rattle.following.proofs.Followed.{applied_accepted, applied_refused, next_trap, next_loss}
use Rattle.following.specs.Following.{TellsTrap, TellsLoss}
use Rattle.following.proofs.follower.Follower.step.Goals as goal

pub returns-in-Some-clause-applied : goal.returns-in-Some-clause-applied
returns-in-Some-clause-applied c =
    applied_refused c.args.self.now (operation.Step c.args.hart) c.in-Some.fault
    (ap (λ core. refused core (operation.Step c.args.hart)) (sym c.self.view_is) ∙ sym c.refusal.ensures.value ∙ c.in-Some.is)

pub returns-in-None-clause-applied : goal.returns-in-None-clause-applied
returns-in-None-clause-applied c =
    c.follow_step.ensures.after
    ∙ applied_accepted c.self.inside.core (operation.Step c.args.hart) (sym c.refusal.ensures.value ∙ c.in-None.is)
    ∙ ap (λ core. applied core (operation.Step c.args.hart)) c.self.view_is

pub returns-in-None-clause-traps : goal.returns-in-None-clause-traps
returns-in-None-clause-traps c =
    subst (λ core. TellsTrap core c.args.hart c.follow_step.new.facts) c.self.view_is
    (next_trap c.self.inside.core c.args.hart c.follow_step.new.facts c.follow_step.ensures.registers c.follow_step.ensures.facts)

pub returns-in-None-clause-losses : goal.returns-in-None-clause-losses
returns-in-None-clause-losses c =
    subst (λ core. TellsLoss core c.args.hart c.follow_step.new.facts) c.self.view_is
    (next_loss c.self.inside.core c.args.hart c.follow_step.new.facts c.self.invariant.kept c.follow_step.ensures.facts)
