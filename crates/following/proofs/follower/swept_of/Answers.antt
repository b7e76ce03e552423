-- The harts of an image are few.
use Rattle.std.proofs.Common.{◌≡◌, true, length, ap, subst, arith}
use Rattle.cheri_model.specs.runs.ImageRules.{is_image}
use Rattle.cores.proofs.SweepLemmas.{harts_are_few}
use Rattle.following.proofs.follower.swept_of.Goals as goal

pub swept_places-requires : goal.swept_places-requires
swept_places-requires c =
    let image = subst (λ i. is_image i ≡ true) c.view-view.ensures.image c.granules-granules.ensures.formed in
    omega (arith, ap (λ s. length s.harts) c.view-view.ensures.state, harts_are_few c.args.core.now c.requires image)
