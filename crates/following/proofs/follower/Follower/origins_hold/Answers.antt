-- The law of origins, at the replay that the core is.
use Rattle.std.proofs.Common.{sym, ◌∙◌, ap, subst}
use Rattle.cheri_model.specs.runs.Replay.{operations_of}
use Rattle.cores.specs.Cores.{IsCore}
use Rattle.origins.specs.Places.{value_in}
use Rattle.origins.proofs.RunOrigins.{has_origin}
use Rattle.following.proofs.follower.Follower.origins_hold.Goals as goal

pub returns : goal.returns
returns c place cap held =
    let kept = subst (λ core. IsCore core) c.self.view_is c.self.invariant.kept in
    has_origin c.args.self.now.image (operations_of c.args.self.now.trace) place cap kept.lawful
    (ap (λ state. value_in state place) (sym kept.replay.state) ∙ held)
