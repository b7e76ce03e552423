-- The places that are listed are those that lose their tag, as many as the event counts.
use Rattle.std.proofs.Common.{◌≡◌, ◌++◌, ◌∷◌, [], length, subst}
use Rattle.std.specs.Prelude.{IfOk, OnOk}
use Rattle.cheri_model.specs.declared.operation.Event.TheVariants as event
use Rattle.facts.specs.SweepLaw.{HaveRegisters, AreTagsLost}
use Rattle.following.specs.Following.{next_swept}
use Rattle.following.proofs.Followed.{next_lost, next_counted}
use Rattle.following.proofs.follower.Follower.sweep.Goals as goal

pub returns-in-Ok-clause-lost : goal.returns-in-Ok-clause-lost
returns-in-Ok-clause-lost c =
    let core = c.self.inside.core in
    let now = c.follow_sweep.new.core in
    let places = c.in-Ok.places.items in
    let listed = subst (λ r. IfOk r (λ p. p.items ≡ next_swept core c.args.lo c.args.hi)) c.in-Ok.is c.swept_of.ensures.places in
    let registers = subst (λ r. OnOk r (HaveRegisters core.state.harts)) c.in-Ok.is c.swept_of.ensures.registers in
    subst (λ k. AreTagsLost k.state now.state places) c.self.view_is
    (next_lost core now c.args.lo c.args.hi places registers listed c.follow_sweep.ensures.after)

pub returns-in-Ok-clause-counted : goal.returns-in-Ok-clause-counted
returns-in-Ok-clause-counted c =
    let core = c.self.inside.core in
    let now = c.follow_sweep.new.core in
    let places = c.in-Ok.places.items in
    let listed = subst (λ r. IfOk r (λ p. p.items ≡ next_swept core c.args.lo c.args.hi)) c.in-Ok.is c.swept_of.ensures.places in
    let registers = subst (λ r. OnOk r (HaveRegisters core.state.harts)) c.in-Ok.is c.swept_of.ensures.registers in
    subst (λ k. now.trace ≡ k.trace ++ event.Sweep (length places) c.args.lo c.args.hi ∷ []) c.self.view_is
    (next_counted core now c.args.lo c.args.hi places registers listed c.follow_sweep.ensures.after)
