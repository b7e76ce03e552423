-- A table for a core before its first operation.
use Rattle.std.proofs.Common.{◌≡◌, ◌∙◌, true, length, ap, subst, arith}
use Rattle.cheri_model.specs.runs.ImageRules.{is_image}
use Rattle.cores.proofs.SweepLemmas.{harts_are_few}
use Rattle.origins.specs.Table.{IsOpening}
use Rattle.following.specs.Following.{IsFollowed}
use Rattle.following.proofs.Followed.{opened, ok_weaker}
use Rattle.following.proofs.follower.opening_table.Goals as goal

pub overflow_cast-harts : goal.overflow_cast-harts
overflow_cast-harts c =
    let image = subst (λ i. is_image i ≡ true) c.view-view.ensures.image c.granules-granules.ensures.formed in
    omega (arith, ap (λ s. length s.harts) c.view-view.ensures.state, harts_are_few c.args.core.now c.requires.core image)

pub returns : goal.returns
returns c =
    let core = c.args.core.now in
    let harts = ap (λ s. length s.harts) c.view-view.ensures.state in
    let granules = c.granule_count.ensures.count ∙ ap (λ s. length s.memory) c.view-view.ensures.state in
    ok_weaker c.open.result (IsOpening (length c.view-view.result.harts.now) c.granule_count.result) (λ table. IsFollowed core table)
    (λ table opening. opened core table c.requires.core c.requires.fresh
    (subst (λ n. IsOpening n (length core.state.memory) table) harts
    (subst (λ n. IsOpening (length c.view-view.result.harts.now) n table) granules opening)))
    c.open.ensures
