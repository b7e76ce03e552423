use Rattle.std.proofs.Common.{sym, ◌∙◌, subst}
use Rattle.cheri_model.specs.declared.operation.Op.TheVariants as operation
use Rattle.cores.specs.Cores.{IsCore}
use Rattle.following.specs.Following.{IsFollowed}
use Rattle.following.proofs.Followed.{not_refused, applied_accepted, followed_sweep}
use Rattle.following.proofs.follower.follow_sweep.Goals as goal

pub unreachable-requires : goal.unreachable-requires
unreachable-requires c =
    not_refused c.args.core.now (operation.Sweep c.args.lo c.args.hi) c.in-Err.field-0 c.requires.accepted (sym c.in-Err.is ∙ c.sweep.ensures.answered)

pub returns-clause-followed_on : goal.returns-clause-followed_on
returns-clause-followed_on c =
    let after = c.sweep.ensures.applied ∙ sym (applied_accepted c.args.core.now (operation.Sweep c.args.lo c.args.hi) c.requires.accepted) in
    subst (λ core. IsFollowed core c.args.origins.now) (sym after)
    (followed_sweep c.args.core.now c.args.lo c.args.hi c.args.origins.now (subst (λ core. IsCore core) after c.sweep.ensures.core) c.requires.followed)
